use Rattle.std.proofs.Common.{◌≡◌, ℕ, List, inl, sym, ◌∙◌}
use Rattle.std.proofs.lemmas.List.{get_or_past}
use Rattle.sqlite.specs.declared.types.Value.TheVariants.{Blob, Null}
use Rattle.dep_schema.proofs.sending.give_sized.Goals as goal

no_bytes : (bytes : List ℕ) → Null ≡ Blob bytes → ⊥
no_bytes bytes is = cc

-- the row has no third column
pub returns-in_default-2-clause-refused : goal.returns-in_default-2-clause-refused
returns-in_default-2-clause-refused g c is =
    let past = (rw c.in_default.is at c.get_ref.ensures.err).1 in
    inl (λ bytes. no_bytes bytes.0 (sym (get_or_past c.args.row.now 2 Null past) ∙ bytes.1))
