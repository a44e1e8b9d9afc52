-- The answer of a query, whose rows came one at a time.
use Rattle.std.proofs.Common.{◌≡◌, ℕ, List, Ok, sym, subst}
use Rattle.sqlite.specs.Order.{Row}
use Rattle.sqlite.specs.Effect.{Database}
use Rattle.sqlite.specs.Listing.{understood, IsSourceOf, reads_listing}
use Rattle.sqlite.specs.State.{State, IsUnchanged, Shown, ShowsRows}
use Rattle.sqlite.specs.Clock.{timed}
use Rattle.sqlite.proofs.StateLemmas.{unchanged}
use Rattle.sqlite.proofs.Callers.{IsPlain}

-- it is the answer in the first state
pub shown_from : (sql : List ℕ) (params : Row) (first old new : State) (rows : List Row) → IsUnchanged first old → IsPlain (understood first.now.schema sql) → Shown sql params old new rows → Shown sql params first first rows
unfolding Shown
shown_from sql params first old new rows same plain h =
    let now = same.0.now_is in
    let here : understood first.now.schema sql ≡ Ok h.0 = subst (λ (d : Database). understood d.schema sql ≡ Ok h.0) now h.1.is in
    let none = (subst IsPlain here plain).0 in
    let full = timed params h.0.formats h.1.now in
    let it = subst (ShowsRows old new sql h.0 full rows) none h.2 in (
      h.0,
      record { is = here; whole = h.1.whole; given = h.1.given; now = h.1.now },
      subst (ShowsRows first first sql h.0 full rows) (sym none) (it.0, subst (λ (d : Database). IsSourceOf (reads_listing d.schema sql) d it.0) now it.1, it.2, unchanged first same.0.was_open),
    )
