mod DecodedSolutions
mod RoundTrip
mod Obeyings
mod CheckedAnswers
mod Told
mod Fronts
mod Tellings
