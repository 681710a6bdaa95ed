mod Laid
mod Parts
mod Lists
mod Seen
mod Slid
mod Changed
