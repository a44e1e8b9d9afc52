-- What a chunk reader keeps.
use Rattle.std.specs.Prelude.{ℕ, List}
use Rattle.dep_body.specs.declared.stage.Stage.{Stage}

pub record ReaderValue : Type 0 where
  pub limit : ℕ
  pub content : List ℕ
  pub stage : Stage
