mod JudgedLemmas
mod PrintedLemmas
mod LoopLemmas
