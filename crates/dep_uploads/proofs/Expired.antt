-- Uploads that time out one after another.
use Rattle.std.proofs.Common.{◌≡◌, ◌≢◌, ◌⊎◌, inl, inr, ℕ, ◌+◌, ◌-◌, ◌≤◌, IsTrue, Bool, true, false, not, ◌||◌, cond, Option, Some, None, is_some, refl, sym, ap, subst, ◌∙◌, nat_cmp, is_eq, arith}
use Rattle.std.specs.Prelude.{nat_lt}
use Rattle.std.specs.Option.{option_map_or}
use Rattle.std.specs.Ordering.{eq_by_cmp}
use Rattle.std.specs.FinMap as finmap
use Rattle.std.specs.FinSet as set
use Rattle.std.proofs.lemmas.Cmp.{nat_cmp_total, tied_itself}
use Rattle.std.proofs.lemmas.Bool.Decides.{nat_tests}
use Rattle.dep_types.specs.Maps.{Numbered, Numbers}
use Rattle.dep_types.specs.State.{State, Upload, is_idle, expires, expired, unexpired, clock_at, tick}
use Rattle.dep_types.specs.declared.counters.Counters.{Counters}
use Rattle.dep_types.specs.declared.config.Config.{Config}
use Rattle.dep_types.proofs.TickLemmas.{get-unexpired, contains-expired}
use Rattle.dep_tables.specs.Tables.{Tables}
use Rattle.dep_tables.specs.declared.uploads.LeftUpload.{LeftUpload}
use Rattle.dep_tables.specs.Edits.{IsLeftBefore}
use Rattle.dep_row_maps.specs.TablesAre.{TablesAre}
use Rattle.dep_row_maps.specs.Left.{was_left_before, ReportsLeft}
use Rattle.dep_row_maps.proofs.Left.{left_before_read}
use Rattle.dep_row_maps.proofs.Files.{same_number}
use Rattle.dep_row_maps.proofs.Lens.{tied_not, get_gone, get_left}
use Rattle.dep_uploads.specs.Expiring.{timed_out, expired_all}

-- ---- to be idle is to be left before a moment

same_moment : (most clock last : ℕ) → nat_lt most (clock - last) ≡ nat_lt last (clock - most)
same_moment most clock last = grind (arith, nat_tests)

-- an upload expires where it was last written to before that moment
pub expires_is : (config : Config) (clock : ℕ) (us : Numbered Upload) (u : ℕ) → expires config clock us u ≡ was_left_before (clock - config.staging_max_idle) us u
expires_is config clock us u = go (finmap.get us u)
  where
    go : (o : Option Upload) → option_map_or (is_idle config clock) o false ≡ option_map_or (λ (it : Upload). nat_lt it.last (clock - config.staging_max_idle)) o false
    go None = refl
    go (Some it) = same_moment config.staging_max_idle clock it.last

-- ---- one of them ends

never : (b : Bool) (x : Option Upload) → x ≡ None → cond b x None ≡ None
never true x e = e
never false x e = refl

held : (config : Config) (clock : ℕ) (us : Numbered Upload) (u : ℕ) → expires config clock us u ≡ true → is_some (finmap.get us u) ≡ true
held config clock us u idle = go (finmap.get us u) idle
  where
    go : (o : Option Upload) → option_map_or (is_idle config clock) o false ≡ true → is_some o ≡ true
    go None h = absurd (cc)
    go (Some it) h = refl

module _ (config : Config) (clock : ℕ) (us : Numbered Upload) (u : ℕ) (idle : expires config clock us u ≡ true) where
  abbrev rest : Numbered Upload
  rest = finmap.remove us u

  same_test : (q : ℕ) → q ≢ u → expires config clock rest q ≡ expires config clock us q
  same_test q apart = ap (λ x. option_map_or (is_idle config clock) x false) (get_left us u q apart)

  unexpired_less : unexpired config clock rest ≡ unexpired config clock us
  unexpired_less = finmap.same_map nat_cmp_total finmap.nat_cmp-IsAntisymmetric _ _ (λ q. go q (same_number q u))
    where
      go : (q : ℕ) → (q ≡ u) ⊎ (q ≢ u) → finmap.get (unexpired config clock rest) q ≡ finmap.get (unexpired config clock us) q
      go q (inl is) =
          let here : finmap.get rest q ≡ None = ap (finmap.get rest) is ∙ get_gone us u in
          get-unexpired config clock rest q ∙ never (not (expires config clock rest q)) (finmap.get rest q) here
          ∙ sym (get-unexpired config clock us q ∙ ap (λ b. cond (not b) (finmap.get us q) None) (ap (expires config clock us) is ∙ idle))
      go q (inr apart) =
          get-unexpired config clock rest q ∙ ap (λ b. cond (not b) (finmap.get rest q) None) (same_test q apart) ∙ ap (λ x. cond (not (expires config clock us q)) x None) (get_left us u q apart)
          ∙ sym (get-unexpired config clock us q)

  abbrev numbers_with : Numbers → Numbered Upload → Numbers
  numbers_with t m = set.union t (set.from_list (finmap.keys (expired config clock m)))

  reported : (t : Numbers) (m : Numbered Upload) (q : ℕ) → set.contains (numbers_with t m) q ≡ (set.contains t q || is_some (cond (expires config clock m q) (finmap.get m q) None))
  reported t m q = set.contains-union nat_cmp_total t _ q ∙ ap (λ b. set.contains t q || b) (contains-expired config clock m q)

  or_true : (a b : Bool) → b ≡ true → (a || b) ≡ true
  or_true true b e = refl
  or_true false b e = e

  numbers_more : (t : Numbers) → numbers_with (set.insert t u) rest ≡ numbers_with t us
  numbers_more t = set.same_set nat_cmp_total set.nat_cmp-IsAntisymmetric _ _ (λ q. reported (set.insert t u) rest q ∙ go q (same_number q u) ∙ sym (reported t us q))
    where
      go : (q : ℕ) → (q ≡ u) ⊎ (q ≢ u)
          → (set.contains (set.insert t u) q || is_some (cond (expires config clock rest q) (finmap.get rest q) None)) ≡ (set.contains t q || is_some (cond (expires config clock us q) (finmap.get us q) None))
      go q (inl is) =
          let in_it : set.contains (set.insert t u) q ≡ true = set.contains-insert nat_cmp_total t u q ∙ ap (λ b. b || set.contains t q) (ap (eq_by_cmp nat_cmp q) (sym is) ∙ ap is_eq (tied_itself nat_cmp_total q)) in
          let gone : is_some (cond (expires config clock us q) (finmap.get us q) None) ≡ true =
          ap (λ b. is_some (cond b (finmap.get us q) None)) (ap (expires config clock us) is ∙ idle) ∙ held config clock us q (ap (expires config clock us) is ∙ idle) in
          ap (λ b. b || is_some (cond (expires config clock rest q) (finmap.get rest q) None)) in_it ∙ sym (or_true (set.contains t q) _ gone)
      go q (inr apart) =
          ap (λ b. b || is_some (cond (expires config clock rest q) (finmap.get rest q) None)) (set.contains-insert nat_cmp_total t u q ∙ ap (λ b. b || set.contains t q) (tied_not q u apart))
          ∙ ap (λ b. set.contains t q || is_some (cond b (finmap.get rest q) None)) (same_test q apart) ∙ ap (λ x. set.contains t q || is_some (cond (expires config clock us q) x None)) (get_left us u q apart)

  -- what expires of the rest did so before
  expires_rest : (q : ℕ) → IsTrue (expires config clock rest q) → IsTrue (expires config clock us q)
  expires_rest q h = go (same_number q u)
    where
      go : (q ≡ u) ⊎ (q ≢ u) → IsTrue (expires config clock us q)
      go (inl is) = ap (expires config clock us) is ∙ idle
      go (inr apart) = sym (same_test q apart) ∙ h

  one_less : finmap.len rest + 1 ≤ finmap.len us
  one_less = go (finmap.len us) refl (finmap.len-remove nat_cmp_total us u ∙ ap (λ b. cond b (finmap.len us - 1) (finmap.len us)) (held config clock us u idle))
    where
      go : (n : ℕ) → finmap.len us ≡ n → finmap.len rest ≡ finmap.len us - 1 → finmap.len rest + 1 ≤ finmap.len us
      go n is less = some (finmap.get us u) refl (held config clock us u idle)
        where
          some : (o : Option Upload) → finmap.get us u ≡ o → is_some o ≡ true → finmap.len rest + 1 ≤ finmap.len us
          some None e h = absurd (cc)
          some (Some it) e h = filled (same_number (finmap.len us) 0)
            where
              filled : (finmap.len us ≡ 0) ⊎ (finmap.len us ≢ 0) → finmap.len rest + 1 ≤ finmap.len us
              filled (inl none) = absurd (let gone : finmap.get us u ≡ None = ap (λ (m : Numbered Upload). finmap.get m u) (finmap.empty_of_len us none) ∙ finmap.get-empty nat_cmp u in let both = sym e ∙ gone in cc)
              filled (inr is) = omega (arith, less, is)

-- where one that is idle ends, the tick has the same to do
ended_one : (config : Config) (clock u : ℕ) (s : State) → expires config clock s.uploads u ≡ true → expired_all config clock (timed_out u s) ≡ expired_all config clock s
ended_one config clock u s idle =
    (λ i. record s { uploads = unexpired_less config clock s.uploads u idle i; timed_out = numbers_more config clock s.uploads u idle s.timed_out i })

-- and where none is, nothing
pub all_left : (config : Config) (clock : ℕ) (us : Numbered Upload) → ((q : ℕ) → expires config clock us q ≡ false) → unexpired config clock us ≡ us
all_left config clock us none = finmap.same_map nat_cmp_total finmap.nat_cmp-IsAntisymmetric _ _ (λ q. get-unexpired config clock us q ∙ ap (λ b. cond (not b) (finmap.get us q) None) (none q))

or_nothing : (b : Bool) → (b || false) ≡ b
or_nothing true = refl
or_nothing false = refl

pub none_more : (config : Config) (clock : ℕ) (us : Numbered Upload) (t : Numbers) → ((q : ℕ) → expires config clock us q ≡ false) → set.union t (set.from_list (finmap.keys (expired config clock us))) ≡ t
none_more config clock us t none = set.same_set nat_cmp_total set.nat_cmp-IsAntisymmetric _ _ (λ q.
    set.contains-union nat_cmp_total t _ q ∙ ap (λ b. set.contains t q || b) (contains-expired config clock us q ∙ ap (λ b. is_some (cond b (finmap.get us q) None)) (none q)) ∙ or_nothing (set.contains t q))

ended_all : (config : Config) (clock : ℕ) (s : State) → ((q : ℕ) → expires config clock s.uploads q ≡ false) → expired_all config clock s ≡ s
ended_all config clock s none = (λ i. record s { uploads = all_left config clock s.uploads none i; timed_out = none_more config clock s.uploads s.timed_out none i })

-- ---- one after another

-- so many ended, and with those that are left the tick has the same to do
pub record IsExpiring (config : Config) (clock passed : ℕ) (s : State) (t : Tables) : Type 0 where
  pub left : State
  pub are : TablesAre t left
  pub same : expired_all config clock left ≡ expired_all config clock s
  pub idle : (u : ℕ) → IsTrue (expires config clock left.uploads u) → IsTrue (expires config clock s.uploads u)
  pub count : passed + finmap.len left.uploads ≤ finmap.len s.uploads

pub none_expired : (config : Config) (clock : ℕ) (s : State) (t : Tables) → TablesAre t s → IsExpiring config clock 0 s t
none_expired config clock s t are = record { left = s; are = are; same = refl; idle = λ u h. h; count = omega arith }

module _ (config : Config) (clock passed : ℕ) (s : State) (t : Tables) (z : IsExpiring config clock passed s t) (found : Option LeftUpload) (read : IsLeftBefore (clock - config.staging_max_idle) t found) where
  abbrev reports : ReportsLeft (clock - config.staging_max_idle) z.left.uploads found
  reports = left_before_read t z.left z.are (clock - config.staging_max_idle) found read

  -- the one that is found is idle
  pub found_idle : (l : LeftUpload) → found ≡ Some l → IsTrue (expires config clock z.left.uploads l.upload)
  found_idle l is = expires_is config clock z.left.uploads l.upload ∙ subst (ReportsLeft (clock - config.staging_max_idle) z.left.uploads) is reports

  pub one_more : (l : LeftUpload) → found ≡ Some l → (now : Tables) → TablesAre now (timed_out l.upload z.left) → IsExpiring config clock (passed + 1) s now
  one_more l is now are =
      let idle = found_idle l is in
      record {
        left = timed_out l.upload z.left;
        are = are;
        same = ended_one config clock l.upload z.left idle ∙ z.same;
        idle = λ u h. z.idle u (expires_rest config clock z.left.uploads l.upload idle u h);
        count = omega (arith, z.count, one_less config clock z.left.uploads l.upload idle);
      }

  pub all_expired : found ≡ None → TablesAre t (expired_all config clock s)
  all_expired is =
      let none = λ (q : ℕ). expires_is config clock z.left.uploads q ∙ subst (ReportsLeft (clock - config.staging_max_idle) z.left.uploads) is reports q in
      subst (TablesAre t) (sym (ended_all config clock z.left none) ∙ z.same) z.are

-- ---- there are no more of them than numbers

-- with the clock written, that is the tick
pub tick_is : (config : Config) (s : State) (moment clock : ℕ) (next : Counters) → clock ≡ clock_at s moment → next ≡ s.next → expired_all config clock (record s { clock = clock; next = next }) ≡ tick config s moment
tick_is config s moment clock next now given =
    ap (λ c. expired_all config c (record s { clock = c; next = next })) now
    ∙ ap (λ (n : Counters). expired_all config (clock_at s moment) (record s { clock = clock_at s moment; next = n })) given
