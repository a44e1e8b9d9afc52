-- What an export gave, against the bag of the state.
use Rattle.std.proofs.Common.{◌≡◌, ℕ, List, [], ◌∷◌, ◌++◌, Some, None, Ok, Err, inl, inr, refl, sym, ap, subst, ◌∙◌, append_assoc, codes}
use Rattle.std.specs.Prelude.{Result, flat_map, map as each, option_and_then, option_map}
use Rattle.std.specs.Result.{IsErrAnd}
use Rattle.std.specs.List.{All}
use Rattle.std.specs.Cmp.{nat_cmp_total}
use Rattle.std.specs.FinMap as map
use Rattle.std.proofs.lemmas.Grind.{flat_map-append}
use Rattle.std.proofs.lemmas.List.Elements.{All-head, All-tail}
use Rattle.dep_types.specs.State.{State, Object, File}
use Rattle.dep_types.specs.Rows.{file_row, object_view}
use Rattle.dep_types.specs.Sinks.{PathAndBytes, IsPrefix, folder_made, file_given}
use Rattle.dep_types.specs.declared.rows.ObjectView.{ObjectView}
use Rattle.dep_types.specs.declared.store_fault.StoreFault.{StoreFault}
use Rattle.dep_types.specs.declared.store_fault.StoreFault.TheVariants as store
use Rattle.dep_bag.specs.Bag.{payload, bag_files}
use Rattle.dep_bag.specs.Parts.{reported_tag_files}
use Rattle.dep_bag.specs.Source.{view_at}
use Rattle.dep_bag.specs.Giving.{AccountsForFailures, IsGivenAt, IsGivenOrPrefix, tag_transcript, AreFilesOf}
use Rattle.dep_bag.specs.ExportFaults.{export_fault_for}
use Rattle.dep_bag.specs.Exports.{bag_transcript, IsExported}
use Rattle.dep_bag.specs.declared.export_fault.ExportFault.{ExportFault}
use Rattle.dep_bag.specs.declared.export_fault.ExportFault.TheVariants.{NoSuchObject, Sink, Store, Memory}
use Rattle.dep_bag.proofs.Files.{payload_entry}
use Rattle.dep_bag.proofs.Keys.{entries-held}
use Rattle.dep_bag.proofs.ReportedBag.{same_tag_files}
use Rattle.dep_bag.proofs.GivenParts.{IsOurs, cause_passed, given_front}

same_view : (x y : ObjectView) → Some x ≡ Some y → x ≡ y
same_view x y e = cc

-- the object that a view tells
pub record IsViewOf (s : State) (n : ℕ) (view : ObjectView) : Type 0 where
  pub object : Object
  pub held : map.get s.objects n ≡ Some object
  pub is : view ≡ object_view n object

pub found_view : (s : State) (n : ℕ) (view : ObjectView) → Some view ≡ view_at s n → IsViewOf s n view
found_view s n view reported =
    elim (map.get s.objects n) as (λ found. map.get s.objects n ≡ found → Some view ≡ option_map (object_view n) found → IsViewOf s n view) [
      | None ↦ λ e h. absurd (cc)
      | Some o ↦ λ e h. record { object = o; held = e; is = same_view view (object_view n o) h }
    ] refl reported

-- no view was told
pub none_found : (s : State) (n : ℕ) → None ≡ view_at s n → map.get s.objects n ≡ None
none_found s n reported =
    elim (map.get s.objects n) as (λ found. None ≡ option_map (object_view n) found → found ≡ None) [
      | None ↦ λ h. refl
      | Some o ↦ λ h. absurd (cc)
    ] reported

-- the files of the object's rows are its payload
are_files : (s : State) (n : ℕ) (o : Object) → map.get s.objects n ≡ Some o → (es : List (ℕ × File)) → All (λ e. map.get o.files e.0 ≡ Some e.1) es
    → AreFilesOf s (each (λ e. file_row n e.0 e.1) es) (each payload_entry es)
are_files s n o held [] all = tt
are_files s n o held (e ∷ es) all = (
  refl,
  record { object = n; file = e.1; held = ap (option_and_then (λ o. map.get o.files e.0)) held ∙ All-head (λ e. map.get o.files e.0 ≡ Some e.1) e es all; is = refl },
  are_files s n o held es (All-tail (λ e. map.get o.files e.0 ≡ Some e.1) e es all),
)

pub are_payload : (s : State) (n : ℕ) (view : ObjectView) (v : IsViewOf s n view) → AreFilesOf s view.files (payload v.object)
are_payload s n view v =
    subst (λ w. AreFilesOf s w.files (payload v.object)) (sym v.is)
    (are_files s n v.object v.held (map.entries v.object.files) (entries-held nat_cmp_total map.nat_cmp-IsAntisymmetric v.object.files))

whole_transcript : (n : ℕ) (o : Object) → bag_transcript o ≡ tag_transcript (object_view n o) ++ flat_map file_given (payload o)
unfolding bag_files
whole_transcript n o =
    let tags : List PathAndBytes = reported_tag_files (object_view n o) in
    ap (λ texts. folder_made (codes "data") ++ flat_map file_given (texts ++ payload o)) (sym (same_tag_files n o))
    ∙ ap (λ t. folder_made (codes "data") ++ t) (flat_map-append file_given tags (payload o))
    ∙ sym (append_assoc (folder_made (codes "data")) (flat_map file_given tags) (flat_map file_given (payload o)))

reported_transcript : (s : State) (n : ℕ) (view : ObjectView) (v : IsViewOf s n view) → bag_transcript v.object ≡ tag_transcript view ++ flat_map file_given (payload v.object)
reported_transcript s n view v = subst (λ w. bag_transcript v.object ≡ tag_transcript w ++ flat_map file_given (payload v.object)) (sym v.is) (whole_transcript n v.object)

front_exported : {X : Type 0} (s : State) (n : ℕ) (view : ObjectView) (v : IsViewOf s n view) (e : ExportFault) (given : List ℕ) (r : Result X ExportFault) → IsOurs e
    → IsPrefix given (bag_transcript v.object) → IsErrAnd r (λ x. x ≡ e) → IsExported s n given r
front_exported s n view v e given (Ok x) ours front err = absurd err
front_exported s n view v NoSuchObject given (Err x) ours front err = absurd ours
front_exported {X} s n view v Sink given (Err x) ours front err = subst (λ x. IsExported {X = X} s n given (Err x)) (sym err) (v.object, v.held, front)
front_exported {X} s n view v Store given (Err x) ours front err = subst (λ x. IsExported {X = X} s n given (Err x)) (sym err) (inr (v.object, v.held, front))
front_exported {X} s n view v Memory given (Err x) ours front err = subst (λ x. IsExported {X = X} s n given (Err x)) (sym err) (inr (v.object, v.held, front))

-- a fault among the tag files
pub tags_exported : {X : Type 0} (s : State) (n : ℕ) (view : ObjectView) (v : IsViewOf s n view) (e : ExportFault) (given : List ℕ) (r : Result X ExportFault)
    → IsGivenAt e (tag_transcript view) given → IsErrAnd r (λ x. x ≡ e) → IsExported s n given r
tags_exported s n view v e given r part err =
    let f = given_front e (tag_transcript view) given part in
    front_exported s n view v e given r f.0
    (record {
      rest = f.1.rest ++ flat_map file_given (payload v.object);
      joined = reported_transcript s n view v ∙ ap (λ t. t ++ flat_map file_given (payload v.object)) f.1.joined ∙ append_assoc given f.1.rest (flat_map file_given (payload v.object));
    }) err

-- the tag files, and then what was given of the payload
pub all_exported : {X : Type 0} (s : State) (n : ℕ) (view : ObjectView) (v : IsViewOf s n view) (tags more : List ℕ) (r : Result X ExportFault)
    → tags ≡ tag_transcript view → IsGivenOrPrefix (flat_map file_given (payload v.object)) more r → IsExported s n (tags ++ more) r
all_exported s n view v tags more (Ok x) is gives = (v.object, v.held, (λ i. is i ++ gives i) ∙ sym (reported_transcript s n view v))
all_exported {X} s n view v tags more (Err e) is gives =
    let f = given_front e (flat_map file_given (payload v.object)) more gives in
    let r : Result X ExportFault = Err e in
    front_exported s n view v e (tags ++ more) r f.0
    (record {
      rest = f.1.rest;
      joined = reported_transcript s n view v ∙ (λ i. sym is i ++ f.1.joined i) ∙ sym (append_assoc tags more f.1.rest);
    }) refl

-- a fault of the source before anything is given
module _ {X : Type 0} (fault : StoreFault) (r : Result X ExportFault) (err : IsErrAnd r (λ x. x ≡ export_fault_for fault)) where
  pub unseen_exported : (s : State) (n : ℕ) → IsExported s n [] r
  unseen_exported s n = go r fault err
    where
      go : (r : Result X ExportFault) (fault : StoreFault) → IsErrAnd r (λ x. x ≡ export_fault_for fault) → IsExported s n [] r
      go (Ok x) fault err = absurd err
      go (Err e) store.Store err = subst (λ x. IsExported {X = X} s n [] (Err x)) (sym err) (inl refl)
      go (Err e) store.Memory err = subst (λ x. IsExported {X = X} s n [] (Err x)) (sym err) (inl refl)

  pub unseen_cause : (failures : ℕ) → AccountsForFailures r failures failures
  unseen_cause failures = go fault refl
    where
      go : (is : StoreFault) → fault ≡ is → AccountsForFailures r failures failures
      go store.Store is = cause_passed failures failures failures r Store refl refl (subst (λ f. IsErrAnd r (λ x. x ≡ export_fault_for f)) is err)
      go store.Memory is = cause_passed failures failures failures r Memory refl refl (subst (λ f. IsErrAnd r (λ x. x ≡ export_fault_for f)) is err)
