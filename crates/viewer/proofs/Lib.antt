mod HearingLemmas
mod SizeLemmas
