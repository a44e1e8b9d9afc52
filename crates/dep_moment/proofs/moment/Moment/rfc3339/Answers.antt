use Rattle.std.proofs.Common.{ℕ, List, refl, sym, subst}
use Rattle.std.specs.Str.{IsAscii}
use Rattle.dep_moment.specs.Civil.{civil_of, day_text, rfc3339_text}
use Rattle.dep_moment.proofs.Ascii.{rfc3339-ascii}
use Rattle.dep_moment.proofs.moment.Moment.rfc3339.Goals as goal

pub returns-clause-text : goal.returns-clause-text
unfolding civil_of day_text rfc3339_text
returns-clause-text c = rw (c.civil_date.ensures, ← c.self.view_is, c.two.ensures, c.two-2.ensures, c.two-3.ensures) refl

pub returns-clause-ascii : goal.returns-clause-ascii
returns-clause-ascii c =
    let ascii : IsAscii (rfc3339_text c.args.self) = rw (← c.self.view_is) (rfc3339-ascii c.self.inside.secs c.self.invariant) in
    subst (λ (bytes : List ℕ). IsAscii bytes) (sym (returns-clause-text c)) ascii
