use Rattle.std.proofs.Common.{◌≡◌, ℕ, inl, inr, refl, sym, subst, ◌∙◌, rules, arith}
use Rattle.sqlite.specs.Held.{state}
use Rattle.sqlite.proofs.StateLemmas.{clean_if_open}
use Rattle.dep_store.proofs.Migrated.{ok_states, err_states}
use Rattle.dep_transactions.proofs.Transactions.{clean_last}
use Rattle.dep_tables.specs.Schema.{our_schema, older_schema}
use Rattle.dep_tables.specs.Versions.{our_version, HasVersion}
use Rattle.dep_store.proofs.Opened.{opened_stood, first_means, leaves_migrated, leaves_opened, is_openable, stood_back}
use Rattle.dep_schema.proofs.Version.{not_older}
use Rattle.dep_store.proofs.Older.{never_unknown, one_left, reports_older, known_since, back_since, had_free, not_upgraded}
use Rattle.dep_schema.specs.OpenFaults.{ShowsOrMakes}
use Rattle.dep_transactions.specs.OpenTables.{begun}
use Rattle.dep_transactions.specs.OpenTables.{StaysFile}
use Rattle.dep_migrations.specs.FirstTables.{new_store_tables}
use Rattle.dep_schema.proofs.Reported.{passed_on}
use Rattle.dep_store.proofs.store.Store.open.Goals as goal

pub returns-then-version-eq2 : goal.returns-then-version-eq2
returns-then-version-eq2 g c =
    let first = c.args.connection in
    let old = state g.S.Store first in
    let new = state g.S.Store c.in_ok-schema.schema.connection in
    let did = c.in_ok-schema.ensures in
    let two : c.in_ok-schema.schema.found ≡ our_version = omega (arith, c.if-version-eq2.true, c.version-version.ensures) in
    record {
      fresh = λ clean none. record { tables = new_store_tables; represents = (did.fresh clean none).0; means = first_means };
      found = λ clean s left. elim (opened_stood old new c.in_ok-schema.schema.found s (did.found clean) left) [
        | inl it ↦ it.1
        | inr it ↦ absurd (not_older (sym two ∙ it.0))
      ];
      tables = λ clean t holds. subst (λ (n : ℕ). HasVersion n t × StaysFile new t) two (did.found clean our_schema (inl refl) t holds);
      older = λ clean t holds.
          let it = did.found clean older_schema (inr refl) t holds in
          inr (subst (λ (n : ℕ). HasVersion n t) two it.0, it.1);
      reported = λ clean. inl (subst (ShowsOrMakes g.S.Store (begun first)) two (did.reported clean));
      refused = tt;
      known = tt;
      left = tt;
      stood = tt;
      mode = did.mode;
      honest = clean_last old new _ did.crash;
      «open» = did.opened;
      stop = leaves_opened old new (λ is_open trees h. g.met.S.Store.settled first.store trees is_open h) (c.is_autocommit-between.ensures.settled (search rules)) did.crash;
    }

-- tables of version 1 became those of version 2
pub returns-in-Ok : goal.returns-in-Ok
returns-in-Ok g c =
    let first = c.args.connection in
    let opened = c.in_ok-schema.schema.connection in
    let old = state g.S.Store first in
    let mid = state g.S.Store opened in
    let new = state g.S.Store c.migrate.new.connection in
    let found = c.in_ok-schema.schema.found in
    let did = c.in_ok-schema.ensures in
    let moved = c.in-Ok.ensures in
    let it = moved.migrates in
    let one = one_left found did.known (λ two. omega (arith, two, c.if-version-eq2.false, c.version-version.ensures)) in
    record {
      -- an empty database has version 2
      fresh = λ clean none. absurd (not_older (sym (did.fresh (it.honest clean) none).1 ∙ one));
      found = λ clean s left. elim (opened_stood old mid found s (did.found (it.honest clean)) left) [
        | inl newest ↦ absurd (not_older (sym newest.0 ∙ one))
        | inr older ↦ ok_states mid new _ it clean s older.1
      ];
      tables = λ clean t holds.
          let before = it.honest clean in
          absurd (not_upgraded g.S.Store opened (did.found before our_schema (inl refl) t holds).1.ours (moved.free clean (did.still before one).is_open));
      older = λ clean t holds.
          let its = did.found (it.honest clean) older_schema (inr refl) t holds in
          inl (subst (λ (n : ℕ). HasVersion n t) one its.0, it.ok clean t its.1);
      reported = λ clean.
          let before = it.honest clean in
          let still = did.still before one in
          inr (reports_older g.S.Store first found one (did.reported before), had_free g.S.Store first opened still (moved.free clean still.is_open));
      refused = tt;
      known = tt;
      left = tt;
      stood = tt;
      mode = moved.mode;
      honest = λ clean. clean_last old mid _ did.crash (it.honest clean);
      «open» = λ is_open. did.opened (moved.«open» is_open);
      stop = leaves_migrated old mid new _ found one did.found (λ clean none. (did.fresh clean none).1) it;
    }

-- or the migration failed
pub returns-in-Err : goal.returns-in-Err
returns-in-Err g c =
    let first = c.args.connection in
    let opened = c.in_ok-schema.schema.connection in
    let last = c.migrate.new.connection in
    let old = state g.S.Store first in
    let mid = state g.S.Store opened in
    let new = state g.S.Store last in
    let found = c.in_ok-schema.schema.found in
    let did = c.in_ok-schema.ensures in
    let moved = c.in-Err.ensures in
    let it = moved.migrates in
    let shut = clean_if_open (g.S.Store.view last.store) (g.met.S.Store.shut_if_dirty last.store) in
    let one = one_left found did.known (λ two. omega (arith, two, c.if-version-eq2.false, c.version-version.ensures)) in
    record {
      fresh = tt;
      found = tt;
      tables = tt;
      older = tt;
      reported = λ clean.
          let before = it.honest clean in
          let still = did.still before one in
          inr (
            reports_older g.S.Store first found one (did.reported before),
            opened,
            still,
            c.in-Err.fault,
            c.from.ensures,
            (λ known. moved.cause clean still.is_open (known_since old mid still known)),
          );
      refused = λ clean said openable. never_unknown c.in-Err.fault (sym c.from.ensures ∙ said);
      known = λ clean is_open s left said. never_unknown c.in-Err.fault (sym c.from.ensures ∙ said);
      left = λ is_open.
          let before = it.honest (shut is_open) in
          let still = did.still before one in
          let between = c.is_autocommit-between.ensures.settled (search rules) still.was_open in
          record {
            known = λ known. back_since old mid new between still (moved.left is_open (still.now ∙ sym still.committed) (known_since old mid still known));
            other = λ none. absurd (none (reports_older g.S.Store first found one (did.reported before)));
          };
      stood = λ is_open s left. elim (opened_stood old mid found s (did.found (it.honest (shut is_open))) left) [
        | inl newest ↦ absurd (not_older (sym newest.0 ∙ one))
        | inr older ↦ inr (err_states mid new _ it is_open s older.1)
      ];
      mode = moved.mode;
      honest = λ clean. clean_last old mid _ did.crash (it.honest clean);
      «open» = λ is_open. did.opened (moved.«open» is_open);
      stop = leaves_migrated old mid new _ found one did.found (λ clean none. (did.fresh clean none).1) it;
    }

pub returns-in_err-schema : goal.returns-in_err-schema
returns-in_err-schema g c =
    let first = c.args.connection in
    let last = c.in_err-schema.field-0.0.1 in
    let old = state g.S.Store first in
    let new = state g.S.Store last in
    let refused = c.in_err-schema.ensures in
    let shut = clean_if_open (g.S.Store.view last.store) (g.met.S.Store.shut_if_dirty last.store) in
    let passed = passed_on c.from_residual.result c.in_err-schema.field-0.0 c.from_residual.ensures.1 in
    rw passed record {
      fresh = tt;
      found = tt;
      tables = tt;
      older = tt;
      reported = λ clean. inl (refused.reported clean);
      refused = refused.version;
      known = λ clean is_open s left said. refused.version clean said (is_openable old c.schema-schema.ensures.live is_open s left);
      left = λ is_open. let back = refused.left (shut is_open) is_open in record { known = λ known. back; other = λ none. back };
      stood = λ is_open s left.
          let was_open = refused.opened is_open in
          stood_back old new c.schema-schema.ensures.live was_open (c.is_autocommit-between.ensures.settled (search rules) was_open) (refused.left (shut is_open) is_open) is_open refused.mode s left;
      mode = refused.mode;
      honest = clean_last old new _ refused.crash;
      «open» = refused.opened;
      stop = leaves_opened old new (λ is_open trees h. g.met.S.Store.settled first.store trees is_open h) (c.is_autocommit-between.ensures.settled (search rules)) refused.crash;
    }
