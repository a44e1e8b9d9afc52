-- What was done ahead stays true as the state goes on.
use Rattle.std.proofs.Common.{◌≡◌, ◌<◌, ℕ, Option, Some, None, IfSome, arith, subst, sym}
use Rattle.dep_types.specs.State.{State, Object}
use Rattle.dep_decisions.specs.Laws.{KeepsObjects}
use Rattle.dep_files.specs.Held.{IsReadPart}
use Rattle.dep_files.specs.declared.held.ReadPart.{ReadPart}
use Rattle.dep_views.specs.Ahead.{AreRowsAhead}
use Rattle.dep_views.specs.declared.ahead.RowsAhead.{RowsAhead}

-- what was read of an object: a changed one has another tag
part_still : {P : Type 0} (IsPartOf : ℕ → Object → P → Type 0) (s t : State) → KeepsObjects s t → (read : Option (ReadPart P)) → IfSome read (IsReadPart IsPartOf s) → IfSome read (IsReadPart IsPartOf t)
part_still IsPartOf s t keeps None h = tt
part_still IsPartOf s t keeps (Some read) h = record {
  given = omega (arith, h.given, keeps.next);
  part = λ o there tagged. h.part o (keeps.objects read.object o there (subst (λ (n : ℕ). n < s.next.change) (sym tagged) h.given)) tagged;
}

pub rows_still : (s t : State) (rows : RowsAhead) → KeepsObjects s t → AreRowsAhead s rows → AreRowsAhead t rows
rows_still s t rows keeps are = record {
  texts = part_still _ s t keeps rows.texts.held.read are.texts;
  files = part_still _ s t keeps rows.files.held.read are.files;
}
