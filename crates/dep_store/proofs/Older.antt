-- A database of which version 1 is told, from its open on.
use Rattle.std.proofs.Common.{◌≡◌, inl, inr, ℕ, refl, sym, ap, subst, ◌∙◌}
use Rattle.sqlite.specs.Effect.{Database}
use Rattle.sqlite.specs.Held.{Held, state}
use Rattle.sqlite.specs.State as db
use Rattle.sqlite_trees.specs.declared.store.Store.{Ghosts}
use Rattle.dep_tables.specs.Schema.{our_schema}
use Rattle.dep_tables.specs.Tables.{HasTablesOf, IsKnown, IsOurs}
use Rattle.dep_tables.specs.Versions.{our_version, older_version, IsKnownVersion}
use Rattle.dep_migrations.specs.Beside.{AreNewNamesFree}
use Rattle.dep_types.specs.declared.store_fault.StoreFault.{StoreFault}
use Rattle.dep_types.specs.declared.store_fault.StoreFault.TheVariants as fault
use Rattle.dep_schema.specs.declared.opening.OpenFault.TheVariants.{UnknownVersion}
use Rattle.dep_schema.specs.OpenFaults.{open_fault_for, ShowsOrMakes, ShowsVersion, ReportsVersion}
use Rattle.dep_transactions.specs.OpenTables.{begun}
use Rattle.dep_transactions.specs.OpenTables.{IsBack}
use Rattle.dep_schema.specs.Openable.{SeesTheSame}
use Rattle.dep_migrations.proofs.Upgraded.{new_not_free}
use Rattle.dep_schema.proofs.Version.{not_older, shows_again}
use Rattle.dep_store.specs.Causes.{HadFreeNames}

-- no fault of the store is that its version isn't known
pub never_unknown : (fault : StoreFault) → open_fault_for fault ≡ UnknownVersion → ⊥
never_unknown fault.Store said = cc said
never_unknown fault.Memory said = cc said

pub one_left : (found : ℕ) → IsKnownVersion found → (found ≡ our_version → ⊥) → found ≡ older_version
one_left found (inl two) other = absurd (other two)
one_left found (inr one) other = one

pub known_since : (old new : db.State) → SeesTheSame old new → IsKnown old → IsKnown new
known_since old new still (its, known, ours) = (its, known, subst (HasTablesOf its) (sym still.now) ours)

-- an open that failed behind it fell back to what was there
pub back_since : (old mid new : db.State) → old.now ≡ old.committed → SeesTheSame old mid → IsBack mid new → IsBack old new
back_since old mid new between still back = (back.0 ∙ still.committed ∙ between, back.1 ∙ still.committed ∙ between)

module _ {S : Type 0} (g : Ghosts S) where
  -- it is shown, and nothing was made
  pub reports_older : (old : Held S) (found : ℕ) → found ≡ older_version → ShowsOrMakes g (begun old) found → ReportsVersion (state g old) older_version
  reports_older old found one (asked, inl shown) =
      shows_again (state g (begun old)) (state g old) (state g asked) refl (λ is_open. is_open) older_version (subst (ShowsVersion (state g (begun old)) (state g asked)) one shown)
  reports_older old found one (asked, inr (none, two)) = absurd (not_older (sym two ∙ one))

  pub had_free : (old mid : Held S) → SeesTheSame (state g old) (state g mid) → HadFreeNames g mid → HadFreeNames g old
  had_free old mid still (hashed, same, free) = (hashed, (λ known. same (known_since (state g old) (state g mid) still known) ∙ still.now), free)

  -- tables of version 2 were not upgraded
  pub not_upgraded : (old : Held S) → IsOurs (state g old) → HadFreeNames g old → ⊥
  not_upgraded old ours (hashed, same, free) =
      new_not_free (subst AreNewNamesFree (ap (λ (d : Database). d.schema) (same (our_schema, inl refl, ours)) ∙ ours.schema) free)
