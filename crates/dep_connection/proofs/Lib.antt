mod ExchangeLemmas
mod ShutTurns
pub mod TalkLemmas
mod TurnLemmas
