-- Tables that are made one after another beside what is there.
use Rattle.std.proofs.Common.{◌≡◌, ℕ, zero, suc, ◌+◌, max, Bool, true, false, not, ◌&&◌, ◌||◌, cond, List, [], ◌∷◌, ◌++◌, length, fold, slice_get, Option, None, Some, is_some, Ok, MatchBool, option_and_then, refl, sym, ap, subst, ◌∙◌, arith, codes}
use Rattle.std.specs.List.{AllByRecursion, position_from, list_any}
use Rattle.std.proofs.lemmas.List.Sums.{fold-append}
use Rattle.sqlite.specs.Schema.{Schema}
use Rattle.sqlite.specs.Table.{Table}
use Rattle.sqlite.specs.Order.{Row}
use Rattle.sqlite.specs.Tree.{Trees}
use Rattle.sqlite.specs.Command.TheVariants.{CreateTable}
use Rattle.sqlite.specs.Effect.{Database}
use Rattle.sqlite.specs.Listing.{understood}
use Rattle.sqlite.specs.Rows.{Gives, sequence}
use Rattle.sqlite.specs.Does.{Tally, lacks_sequence, MakesTable, sequence_text}
use Rattle.sqlite.specs.State.{State, Writes, ExecutesIn, ExecutesInside}
use Rattle.sqlite.proofs.Callers.{IsPlain, command_of, statement_of, runs_as}
use Rattle.sqlite_schema.specs.declared.schema.Index.{Index}
use Rattle.sqlite_schema.specs.Names.{same_name}
use Rattle.sqlite_resolve.specs.declared.compiled.Compiled.{Compiled}
use Rattle.sqlite_resolve.specs.Compile.{table_defined_by}
use Rattle.sqlite_catalog.specs.Change.{created, next_tree, past_views, is_used, automatics, KeepsRows}
use Rattle.dep_tables.proofs.Writes.{went, same_value}
use Rattle.dep_tables.specs.Adding.{HasCounters, AreFreeFor, created_all, Adds, AddsAll}

-- ---- names

pub placed_before : {X : Type 0} (p : X → Bool) (k : ℕ) (xs ys : List X) → is_some (position_from p k (xs ++ ys)) ≡ false → is_some (position_from p k xs) ≡ false
placed_before p k [] ys h = refl
placed_before p k (x ∷ xs) ys h = go (p x) h (placed_before p (k + 1) xs ys)
  where
    go : (b : Bool) → is_some (cond b (Some k) (position_from p (k + 1) (xs ++ ys))) ≡ false → (is_some (position_from p (k + 1) (xs ++ ys)) ≡ false → is_some (position_from p (k + 1) xs) ≡ false)
        → is_some (cond b (Some k) (position_from p (k + 1) xs)) ≡ false
    go true h more = h
    go false h more = more h

pub placed_kept : {X : Type 0} (p : X → Bool) (k n : ℕ) (xs ys : List X) → position_from p k xs ≡ Some n → position_from p k (xs ++ ys) ≡ Some n
placed_kept p k n [] ys h = absurd (cc)
placed_kept p k n (x ∷ xs) ys h = go (p x) h (placed_kept p (k + 1) n xs ys)
  where
    go : (b : Bool) → cond b (Some k) (position_from p (k + 1) xs) ≡ Some n → (position_from p (k + 1) xs ≡ Some n → position_from p (k + 1) (xs ++ ys) ≡ Some n)
        → cond b (Some k) (position_from p (k + 1) (xs ++ ys)) ≡ Some n
    go true h more = h
    go false h more = more h

pub placed_after : {X : Type 0} (p : X → Bool) (k : ℕ) (xs ys : List X) → position_from p k xs ≡ None → position_from p k (xs ++ ys) ≡ position_from p (k + length xs) ys
placed_after p k [] ys h = ap (λ n. position_from p n ys) (omega arith)
placed_after p k (x ∷ xs) ys h = go (p x) h (placed_after p (k + 1) xs ys)
  where
    go : (b : Bool) → cond b (Some k) (position_from p (k + 1) xs) ≡ None → (position_from p (k + 1) xs ≡ None → position_from p (k + 1) (xs ++ ys) ≡ position_from p (k + 1 + length xs) ys)
        → cond b (Some k) (position_from p (k + 1) (xs ++ ys)) ≡ position_from p (k + length (x ∷ xs)) ys
    go true h more = absurd (cc)
    go false h more = more h ∙ ap (λ n. position_from p n ys) (omega arith)

pub got_after : {X : Type 0} (xs ys : List X) (k : ℕ) → slice_get (xs ++ ys) (length xs + k) ≡ slice_get ys k
got_after [] ys k = ap (slice_get ys) (omega arith)
got_after (x ∷ xs) ys k =
    let more : suc (length xs) + k ≡ suc (length xs + k) = omega arith in
    ap (slice_get (x ∷ (xs ++ ys))) more ∙ got_after xs ys k

got_kept : {X : Type 0} (xs ys : List X) (n : ℕ) → is_some (slice_get xs n) ≡ true → is_some (slice_get (xs ++ ys) n) ≡ true
got_kept [] ys n h = absurd (cc)
got_kept (x ∷ xs) ys zero h = refl
got_kept (x ∷ xs) ys (suc n) h = got_kept xs ys n h

pub none_of : (a b c : Bool) → (a || b || c) ≡ false → (a ≡ false) × (b ≡ false) × (c ≡ false)
none_of true b c h = absurd (cc)
none_of false true c h = absurd (cc)
none_of false false c h = (refl, refl, h)

-- a name that is free once a table is made was free before
pub created_keeps : (schema : Schema) (table : Table) (name : List ℕ) → is_used (created schema table) name ≡ false → is_used schema name ≡ false
created_keeps schema table name h =
    let all = none_of _ _ _ h in
    rw (placed_before (λ t. same_name t.name name) 0 schema.tables _ all.0, placed_before (λ i. same_name i.name name) 0 schema.indexes _ all.1) all.2

-- ---- counters

counted_once : {X : Type 0} (xs ys : List X) (p q : X → Bool) → is_some (option_and_then (slice_get xs) (position_from p 0 xs)) ≡ true → is_some (option_and_then (slice_get (xs ++ ys)) (position_from p 0 (xs ++ ys))) ≡ true
counted_once xs ys p q h = go (position_from p 0 xs) refl h
  where
    go : (o : Option ℕ) → position_from p 0 xs ≡ o → is_some (option_and_then (slice_get xs) o) ≡ true → is_some (option_and_then (slice_get (xs ++ ys)) (position_from p 0 (xs ++ ys))) ≡ true
    go None is h = absurd (cc)
    go (Some n) is h = rw (placed_kept p 0 n xs ys is) (got_kept xs ys n h)

any_last : {X : Type 0} (p : X → Bool) (xs : List X) (x : X) → p x ≡ false → list_any p (xs ++ x ∷ []) ≡ list_any p xs
any_last p [] x h = rw h refl
any_last p (y ∷ xs) x h = ap (λ b. p y || b) (any_last p xs x h)

lacks_none : (a b c d : Bool) → (a && not b) ≡ false → c ≡ a → (b ≡ true → d ≡ true) → (c && not d) ≡ false
lacks_none false b c d h same more = rw same refl
lacks_none true true c d h same more = rw (more refl) (go c)
  where
    go : (c : Bool) → (c && false) ≡ false
    go true = refl
    go false = refl
lacks_none true false c d h same more = absurd (cc)

pub created_counters : (schema : Schema) (table : Table) → table.is_counted ≡ false → HasCounters schema → HasCounters (created schema table)
created_counters schema table plain has = lacks_none (list_any (λ t. t.is_counted) schema.tables) (is_some (sequence schema)) _ _ has
    (any_last (λ (t : Table). t.is_counted) schema.tables (record table { tree = next_tree schema }) plain)
    (counted_once schema.tables (record table { tree = next_tree schema } ∷ []) (λ t. same_name t.name (codes "sqlite_sequence")) (λ t. t.is_counted))

-- ---- trees

raised : {X : Type 0} (f : X → ℕ) (m k : ℕ) (xs : List X) → fold (λ n x. max n (f x + 1)) (max m k) xs ≡ max (fold (λ n x. max n (f x + 1)) m xs) k
raised f m k [] = refl
raised f m k (x ∷ xs) =
    let swap : max (max m k) (f x + 1) ≡ max (max m (f x + 1)) k = omega arith in
    ap (λ n. fold (λ n x. max n (f x + 1)) n xs) swap ∙ raised f (max m (f x + 1)) k xs

-- the next tree after a table is made is that after its indexes
pub next_created : (schema : Schema) (table : Table) → next_tree (created schema table) ≡ fold (λ n i. max n (i.tree + 1)) (next_tree schema + 1) (automatics (record table { tree = next_tree schema }) 0 (next_tree schema + 1) table.uniques)
next_created schema table =
    let made = automatics (record table { tree = next_tree schema }) 0 (next_tree schema + 1) table.uniques in
    let start = fold (λ n t. max n (t.tree + 1)) (past_views schema) schema.tables in
    let first : fold (λ n t. max n (t.tree + 1)) (past_views schema) (schema.tables ++ record table { tree = next_tree schema } ∷ []) ≡ max start (next_tree schema + 1) =
    fold-append (λ n (t : Table). max n (t.tree + 1)) (past_views schema) schema.tables (record table { tree = next_tree schema } ∷ []) in
    let top : max (next_tree schema) (next_tree schema + 1) ≡ next_tree schema + 1 = omega arith in
    ap (λ n. fold (λ n (i : Index). max n (i.tree + 1)) n (schema.indexes ++ made)) first ∙ fold-append (λ n (i : Index). max n (i.tree + 1)) (max start (next_tree schema + 1)) schema.indexes made
    ∙ ap (λ n. fold (λ n (i : Index). max n (i.tree + 1)) n made) (raised (λ (i : Index). i.tree) start (next_tree schema + 1) schema.indexes ∙ top)

-- ---- one table

pub understood_of : (sql : List ℕ) (params : Row) (old new : State) (count : ℕ) → ExecutesInside 0 sql params old new (Ok count) → (c : Compiled) × (understood old.now.schema sql ≡ Ok c)
unfolding ExecutesIn
understood_of sql params old new count h = (h.0.0, h.0.1.is)

abbrev pub IsMaking : List ℕ → State → Type 0
IsMaking sql old = (command_of (understood old.now.schema sql) ≡ CreateTable) × IsPlain (understood old.now.schema sql) × (statement_of sql (understood old.now.schema sql) ≡ sql)

module _ (sql : List ℕ) (table : Table) (old new : State) (count : ℕ) (defined : table_defined_by sql ≡ Ok table) (uncounted : table.is_counted ≡ false) (h : ExecutesInside 0 sql [] old new (Ok count)) where
  pub adds : ((c : Compiled) → understood old.now.schema sql ≡ Ok c → IsMaking sql old) → Adds table old.now new.now
  adds makes =
      let known = understood_of sql [] old new count h in
      let is = makes known.0 known.1 in
      let w = subst (λ t. Writes old new None CreateTable t [] count) is.2 (runs_as sql [] old new old.now.schema refl CreateTable is.0 is.1 count h.0) in
      let all = went w.changed in
      let first = went all.1 in
      let made = first.1 in
      let both : Ok made.table ≡ Ok table = sym made.defined ∙ defined in
      let same : made.table ≡ table = cc in
      let after : first.0.schema ≡ created old.now.schema table = made.is ∙ ap (created old.now.schema) same in
      let last : new.now ≡ all.0 = ap (λ (p : Tally × Database). p.1) (same_value all.2) in
      record {
        free = subst (λ (t : Table). is_used old.now.schema t.name ≡ false) same made.free;
        keeps = λ name free. created_keeps old.now.schema table name (subst (λ s. is_used s name ≡ false) after (before first.0 all.0 name first.2 (subst (λ (d : Database). is_used d.schema name ≡ false) last free)));
        made = λ has.
            let lacking : lacks_sequence first.0.schema ≡ false = ap lacks_sequence after ∙ created_counters old.now.schema table uncounted has in
            let now : new.now ≡ first.0 = last ∙ same_value (rw lacking at first.2) in
            record {
              schema = ap (λ (d : Database). d.schema) now ∙ after;
              empty = ap (λ (d : Database). d.trees (next_tree old.now.schema)) now ∙ made.empty;
              others = subst (λ (d : Database). KeepsRows old.now.schema.tables old.now.trees d.trees) (sym now) made.others;
              sound = w.sound;
            };
      }
    where
      before : (a b : Database) (name : List ℕ) → MatchBool (lacks_sequence a.schema) (MakesTable sequence_text a (Ok b)) (Gives a (Ok b)) → is_used b.schema name ≡ false → is_used a.schema name ≡ false
      before a b name = go (lacks_sequence a.schema)
        where
          go : (lacks : Bool) → MatchBool lacks (MakesTable sequence_text a (Ok b)) (Gives a (Ok b)) → is_used b.schema name ≡ false → is_used a.schema name ≡ false
          go true made free = created_keeps a.schema made.table name (subst (λ s. is_used s name ≡ false) made.is free)
          go false same free = subst (λ (d : Database). is_used d.schema name ≡ false) (same_value same) free

-- ---- all of them

pub adds_append : (xs ys : List Table) (a b c : Database) → AddsAll xs a b → AddsAll ys b c → AddsAll (xs ++ ys) a c
adds_append [] ys a b c same more = subst (λ d. AddsAll ys d c) same more
adds_append (x ∷ xs) ys a b c h more = (h.0, h.1, adds_append xs ys h.0 b c h.2 more)

pub free_all : (tables : List Table) (a b : Database) → AddsAll tables a b → AreFreeFor tables a.schema × ((name : List ℕ) → is_used b.schema name ≡ false → is_used a.schema name ≡ false)
free_all [] a b same = (tt, λ name free. subst (λ (d : Database). is_used d.schema name ≡ false) same free)
free_all (t ∷ tables) a b h =
    let more = free_all tables h.0 b h.2 in
    ((h.1.free, kept tables more.0), λ name free. h.1.keeps name (more.1 name free))
  where
    kept : (ts : List Table) → AreFreeFor ts h.0.schema → AreFreeFor ts a.schema
    kept [] all = tt
    kept (x ∷ ts) all = (h.1.keeps x.name all.0, kept ts all.1)

-- the trees that the tables take
abbrev pub trees_for : List Table → Schema → List ℕ
trees_for [] schema = []
trees_for (t ∷ tables) schema = next_tree schema ∷ trees_for tables (created schema t)

pub record AllMade (tables : List Table) (old new : Database) : Type 0 where
  pub schema : new.schema ≡ created_all tables old.schema
  pub empty : AllByRecursion (λ n. new.trees n ≡ []) (trees_for tables old.schema)
  pub others : KeepsRows old.schema.tables old.trees new.trees

pub all_front : {X : Type 0} (P : X → Type 0) (xs : List X) (x : X) → AllByRecursion P (xs ++ x ∷ []) → AllByRecursion P xs × P x
all_front P [] x all = (tt, all.0)
all_front P (y ∷ xs) x all = let rest = all_front P xs x all.1 in ((all.0, rest.0), rest.1)

keeps_then : (tables : List Table) (a b c : Trees) → KeepsRows tables a b → KeepsRows tables b c → KeepsRows tables a c
keeps_then [] a b c p q = tt
keeps_then (t ∷ tables) a b c p q = (q.0 ∙ p.0, keeps_then tables a b c p.1 q.1)

keeps_all : (tables : List Table) (a : Trees) → KeepsRows tables a a
keeps_all [] a = tt
keeps_all (t ∷ tables) a = (refl, keeps_all tables a)

pub made_all : (tables : List Table) (a c : Database) → AllByRecursion (λ t. t.is_counted ≡ false) tables → HasCounters a.schema → AddsAll tables a c → AllMade tables a c
made_all [] a c plain has same = record { schema = ap (λ (d : Database). d.schema) same; empty = tt; others = subst (λ (d : Database). KeepsRows a.schema.tables a.trees d.trees) (sym same) (keeps_all a.schema.tables a.trees) }
made_all (t ∷ tables) a c plain has h =
    let b = h.0 in
    let one = h.1.made has in
    let more = made_all tables b c plain.1 (subst HasCounters (sym one.schema) (created_counters a.schema t plain.0 has)) h.2 in
    let parts = all_front (λ x. c.trees x.tree ≡ b.trees x.tree) a.schema.tables (record t { tree = next_tree a.schema }) (subst (λ (s : Schema). KeepsRows s.tables b.trees c.trees) one.schema more.others) in
    record {
      schema = more.schema ∙ ap (created_all tables) one.schema;
      empty = (parts.1 ∙ one.empty, subst (λ s. AllByRecursion (λ n. c.trees n ≡ []) (trees_for tables s)) one.schema more.empty);
      others = keeps_then a.schema.tables a.trees b.trees c.trees one.others parts.0;
    }
