use Rattle.std.proofs.Common.{inl, inr, arith}
use Rattle.dep_tables.proofs.Done.{refuses_asking, asks_where}
use Rattle.dep_tables.proofs.files.ask_files.Goals as goal

pub returns-then-object-ge-LIMIT : goal.returns-then-object-ge-LIMIT
returns-then-object-ge-LIMIT g c = refuses_asking (λ storable. elim c.then-object-ge-LIMIT.either [
  | inl above ↦ omega (arith, above, storable.0)
  | inr above ↦ omega (arith, above.1, storable.1)
])

pub returns : goal.returns
returns g c = asks_where (omega (arith, c.if-object-ge-LIMIT.false), omega (arith, c.if-from-ge-LIMIT.false)) c.file_key_params.ensures c.ask_all.ensures.shown c.ask_all.ensures.cause c.ask_all.ensures.keeps
