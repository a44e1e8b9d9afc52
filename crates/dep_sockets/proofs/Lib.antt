pub mod AcceptorLemmas
