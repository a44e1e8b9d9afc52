-- A write of one table leaves the others.
use Rattle.std.proofs.Common.{◌≡◌, ℕ, List, [], ◌∷◌, Bool, true, false, ◌==◌, refl, sym, ap, subst, ◌∙◌, arith}
use Rattle.std.specs.List.{AllByRecursion}
use Rattle.sqlite.specs.Order.{Row}
use Rattle.sqlite.specs.Table.{Table}
use Rattle.sqlite.specs.Tree.{Trees}
use Rattle.sqlite_trees.specs.Tree.{with_tree}
use Rattle.dep_tables.specs.Rowids.{IsOrdered, AreOrdered}

module _ (old new : Trees) (tree : ℕ) where
  -- what a tree has afterwards
  pub tree_after : (rows : List Row) → new tree ≡ rows → (t : ℕ) → ((t ≡ tree → ⊥) → new t ≡ old t) → new t ≡ with_tree old tree rows t
  tree_after rows is t kept = go (t == tree) refl
    where
      go : (b : Bool) → (t == tree) ≡ b → new t ≡ with_tree old tree rows t
      go true e = let same : t ≡ tree = grind (arith, e) in rw e (ap new same ∙ is)
      go false e = rw e (kept (λ same. grind (arith, e, same)))

  -- the rowids still rise in each table
  pub still_ordered : (tables : List Table) → IsOrdered (new tree) → AllByRecursion (λ t. (t.tree ≡ tree → ⊥) → new t.tree ≡ old t.tree) tables → AreOrdered tables old → AreOrdered tables new
  still_ordered [] up kept before = tt
  still_ordered (t ∷ tables) up kept before = (go (t.tree == tree) refl, still_ordered tables up kept.1 before.1)
    where
      go : (b : Bool) → (t.tree == tree) ≡ b → IsOrdered (new t.tree)
      go true e = let same : t.tree ≡ tree = grind (arith, e) in subst (λ n. IsOrdered (new n)) (sym same) up
      go false e = subst IsOrdered (sym (kept.0 (λ same. grind (arith, e, same)))) before.0
