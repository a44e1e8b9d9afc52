-- What is there is shown.
use Rattle.std.proofs.Common.{◌≡◌, ◌∙◌, ℕ, ◌||◌, Bool, true, false, cond, List, [], ◌∷◌, ◌++◌, Option, Some, None, is_some, refl, ap, map as each, if◌then◌else◌}
use Rattle.std.specs.Prelude.{find, bytes_eq, IsTrue}
use Rattle.std.specs.List.{list_any}
use Rattle.std.specs.Option.{option_map, option_map_or, option_and_then}
use Rattle.std.specs.FinMap as finmap
use Rattle.std.specs.FinSet as set
use Rattle.dep_types.specs.BagPaths.{bag_paths, tag_paths, payload_path}
use Rattle.dep_types.specs.State.{State, Object, File, file_at}
use Rattle.dep_types.specs.declared.config.Config.{Config}
use Rattle.dep_types.specs.declared.refusal.Refusal.TheVariants.{NotFound, SegmentedUploadTimedOut}
use Rattle.dep_types.specs.declared.target.Resource.{Resource}
use Rattle.dep_types.specs.declared.target.Resource.TheVariants as at
use Rattle.dep_decisions.specs.LookUps.{has_bag_path, has_object, in_state}
use Rattle.dep_decisions.specs.Rules.{presence_refusal}
use Rattle.dep_decisions.proofs.FoundInMaps.{unless-none}
use Rattle.dep_answers.specs.Bags.{BagEntry, bag_entries, payload_shown, shown_in_bag}
use Rattle.dep_answers.specs.Laws.{is_shown}
use Rattle.dep_answers.specs.Replies.{content_at}

mapped : {X Y : Type 0} (f : X → Y) (o : Option X) → is_some o ≡ true → is_some (option_map f o) ≡ true
mapped f None e = e
mapped f (Some x) e = refl

some_upload : (there timed_out : Bool) → (if there then None else if timed_out then Some SegmentedUploadTimedOut else Some NotFound) ≡ None → there ≡ true
some_upload true timed_out e = refl
some_upload false true e = absurd (cc)
some_upload false false e = absurd (cc)

-- ---- bags

found_path : (path : List ℕ) (ps : List BagEntry) → list_any (bytes_eq path) (each (λ (p : BagEntry). p.0) ps) ≡ true
    → is_some (option_map (λ (p : BagEntry). p.1) (find (λ (p : BagEntry). bytes_eq path p.0) ps)) ≡ true
found_path path [] e = absurd (cc)
found_path path (p ∷ ps) e = go (bytes_eq path p.0) e (found_path path ps)
  where
    rest : Option BagEntry
    rest = find (λ (p : BagEntry). bytes_eq path p.0) ps

    go : (b : Bool) → (b || list_any (bytes_eq path) (each (λ (p : BagEntry). p.0) ps)) ≡ true
        → (list_any (bytes_eq path) (each (λ (p : BagEntry). p.0) ps) ≡ true → is_some (option_map (λ (p : BagEntry). p.1) rest) ≡ true)
        → is_some (option_map (λ (p : BagEntry). p.1) (cond b (Some p) rest)) ≡ true
    go true e later = refl
    go false e later = later e

payload_paths_are : (n : ℕ) (es : List (ℕ × File)) → each (λ (p : BagEntry). p.0) (each (payload_shown n) es) ≡ each (λ (e : ℕ × File). payload_path e.0 e.1.name) es
payload_paths_are n [] = refl
payload_paths_are n (e ∷ es) = ap (λ (l : List (List ℕ)). payload_path e.0 e.1.name ∷ l) (payload_paths_are n es)

paths_are : (n : ℕ) (o : Object) → each (λ (p : BagEntry). p.0) (bag_entries n o) ≡ bag_paths o
paths_are n o = ap (λ (l : List (List ℕ)). tag_paths ++ l) (payload_paths_are n (finmap.entries o.files))

bag_shown : (n : ℕ) (path : List ℕ) (o : Option Object) → option_map_or (λ (x : Object). list_any (bytes_eq path) (bag_paths x)) o false ≡ true
    → is_some (option_and_then (λ (x : Object). shown_in_bag n x path) o) ≡ true
bag_shown n path None e = absurd (cc)
bag_shown n path (Some o) e = found_path path (bag_entries n o) (ap (list_any (bytes_eq path)) (paths_are n o) ∙ e)

-- ---- resources

pub shown_if_there : (config : Config) (s : State) (r : Resource) → IsTrue (is_shown r) → presence_refusal (in_state s) r ≡ None
    → is_some (content_at config s r) ≡ true
shown_if_there config s at.Service shows e = refl
shown_if_there config s (at.Object n) shows e = mapped _ (finmap.get s.objects n) (unless-none (has_object s n) NotFound e)
shown_if_there config s (at.Metadata n) shows e = mapped _ (finmap.get s.objects n) (unless-none (has_object s n) NotFound e)
shown_if_there config s (at.FileSet n) shows e = absurd (cc)
shown_if_there config s (at.File n f) shows e = mapped _ (file_at s n f) (unless-none (is_some (file_at s n f)) NotFound e)
shown_if_there config s at.Staging shows e = absurd (cc)
shown_if_there config s (at.Upload u) shows e = mapped _ (finmap.get s.uploads u) (some_upload (finmap.contains_key s.uploads u) (set.contains s.timed_out u) e)
shown_if_there config s (at.BagList n) shows e = mapped _ (finmap.get s.objects n) (unless-none (has_object s n) NotFound e)
shown_if_there config s (at.BagFile n path) shows e = bag_shown n path (finmap.get s.objects n) (unless-none (has_bag_path s n path) NotFound e)
