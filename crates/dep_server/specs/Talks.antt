-- Connections that were served, as the laws speak of them.
use Rattle.std.specs.Prelude.{ℕ, Bool, List, Option}
use Rattle.dep_types.specs.declared.config.Config.{Config}
use Rattle.dep_exchange.specs.Records.{World}
use Rattle.dep_connection.specs.Turns.{ServedPiece, Exchanges, EndsAs}
use Rattle.dep_connection.specs.declared.connection.Served.{Served}

-- the turns of a connection, which the machine answered from the first world to the last, and why
-- it was served no longer, where this was unread, and the outlet had given up or not
pub record EndedTalk : Type 0 where
  pub config : Config
  pub number : ℕ
  pub first : World
  pub turns : List ServedPiece
  pub last : World
  pub unread : Option (List ℕ)
  pub has_failed : Bool
  pub end : Served
  pub answers : Exchanges config number first turns last
  pub ends : EndsAs unread has_failed turns end
