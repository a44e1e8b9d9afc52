-- What each move keeps or ends, a run keeps until one of its moves ends it.
use Rattle.std.proofs.Common.{◌≡◌, ◌⊎◌, inl, inr, List, [], ◌∷◌, ◌++◌, refl, sym, ap, subst}
use Rattle.dep_types.specs.State.{State}
use Rattle.dep_types.specs.Sound.{IsSound}
use Rattle.dep_types.specs.declared.config.Config.{Config}
use Rattle.dep_server.specs.Moves.{Move, moved, state_by}
use Rattle.dep_server.specs.Runs.{AnyRun, PointOf, state_at}
use Rattle.dep_server.proofs.MovesLead.{leads_on}
use Rattle.dep_server.proofs.SoundLemmas.{moved_sound, moves_sound}

-- one of these moves, from this state on, ends it
pub record HasEnd (config : Config) (Ends : State → Move → Type 0) (s : State) (moves : List Move) : Type 0 where
  pub before : List Move
  pub behind : List Move
  pub move : Move
  pub among : moves ≡ before ++ move ∷ behind
  pub ends : Ends (state_by config s before) move

module _ (config : Config) (P : State → Type 0) (Ends : State → Move → Type 0)
    (by_move : (s : State) (move : Move) → IsSound s → P s → P (moved config s move) ⊎ Ends s move) where
  later : (s : State) (move : Move) (moves : List Move) → HasEnd config Ends (moved config s move) moves → HasEnd config Ends s (move ∷ moves)
  later s move moves e = record {
    before = move ∷ e.before;
    behind = e.behind;
    move = e.move;
    among = ap (λ (l : List Move). move ∷ l) e.among;
    ends = e.ends;
  }

  by_moves : (s : State) (moves : List Move) → IsSound s → P s → P (state_by config s moves) ⊎ HasEnd config Ends s moves
  by_moves s [] sound p = inl p
  by_moves s (move ∷ moves) sound p = elim (by_move s move sound p) [
    | inl stays ↦ elim (by_moves (moved config s move) moves (moved_sound config s move sound) stays) [
      | inl there ↦ inl there
      | inr ended ↦ inr (later s move moves ended)
    ]
    | inr ends ↦ inr (record { before = []; behind = moves; move = move; among = refl; ends = ends })
  ]

-- from a point of a run on
pub until_ended : (r : AnyRun) (P : State → Type 0) (Ends : State → Move → Type 0)
    → ((s : State) (move : Move) → IsSound s → P s → P (moved r.config s move) ⊎ Ends s move)
    → (p : PointOf r) → IsSound r.first → P (state_at p) → P r.last.state ⊎ HasEnd r.config Ends (state_at p) p.behind
until_ended r P Ends by_move p sound h =
    subst (λ (last : State). P last ⊎ HasEnd r.config Ends (state_at p) p.behind) (sym (leads_on r.config r.run p.before p.behind p.joined))
    (by_moves r.config P Ends by_move (state_at p) p.behind (moves_sound r.config r.first p.before sound) h)
