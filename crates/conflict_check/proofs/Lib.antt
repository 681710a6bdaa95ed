mod Walks
mod Heading
mod Verdicts
mod Placing
mod Judging
