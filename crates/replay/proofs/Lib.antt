mod Feeds
mod Events
pub mod Replays
pub mod Redacting
mod Corners
pub mod Growing
mod ReadsWords
mod ReadsLaws
mod ReadsNumbers
mod ReadsBytes
mod ReadsPlaces
mod ReadsEvents
mod ReadsScreens
mod ReadsSessions
mod ReadsAlike
mod ReadsUnchanged
mod ReadsAccepted
mod ReadsSound
mod ReadsReplayed
mod ReadsTests
mod RedactedLines
mod RedactedTexts
mod GoodLines
