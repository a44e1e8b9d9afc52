-- A file as a source streams it.
use Rattle.std.proofs.Common.{◌≡◌, ◌⊎◌, inl, inr, ℕ, List, [], ◌++◌, Some, refl, sym, ap, subst, ◌∙◌}
use Rattle.std.specs.Prelude.{Result, Err}
use Rattle.std.specs.Result.{IsErrAnd}
use Rattle.std.specs.Io.KnownBytes.{Appends}
use Rattle.dep_types.specs.State.{State, File, file_at}
use Rattle.dep_types.specs.Conditions.{Condition, Represents, Leaves}
use Rattle.dep_types.specs.Sound.{IsSound}
use Rattle.dep_types.specs.declared.rows.FileRow.{FileRow}
use Rattle.dep_types.specs.Sinks.{IsPrefix, file_begun, file_ended, file_given}
use Rattle.dep_types.specs.Streams.{HasContent, HasNoFile, IsPartOfContent, IsStreamed}
use Rattle.dep_types.specs.declared.stream_fault.StreamFault.{StreamFault}
use Rattle.dep_types.specs.declared.stream_fault.StreamFault.TheVariants.{Writer, Store, Memory, NoSuchFile}
use Rattle.dep_types.specs.Writing.{HasRisen}
use Rattle.dep_manifest.specs.Reported.{row_path}
use Rattle.dep_bag.specs.ExportFaults.{unsent_fault}
use Rattle.dep_bag.specs.Giving.{IsCausedBy, SinkState, IsStreamedTo, IsContentGiven}
use Rattle.dep_bag.specs.declared.export_fault.ExportFault.{ExportFault}
use Rattle.dep_bag.proofs.GivenParts.{IsOurs, cause_passed, err_keeps, faulty, file_front, nothing_front, ours_there, whole_front}
use Rattle.dep_bag.proofs.Still.{unchanged}

same_file : (x y : File) → Some x ≡ Some y → x ≡ y
same_file x y e = cc

-- of a sound state a file has one content
pub same_content : (s : State) → IsSound s → (f : ℕ) (a b : List ℕ) → HasContent s f a → HasContent s f b → a ≡ b
same_content s sound f a b x y =
    let place = sound.one_place x.object y.object f x.file y.file x.held y.held in
    let file = same_file x.file y.file (sym x.held ∙ ap (λ n. file_at s n f) place ∙ y.held) in
    sym x.is ∙ ap (λ (file : File). file.content) file ∙ y.is

-- a prefix of it, behind the beginning of the file
pub part_sent : (s : State) → IsSound s → (f : ℕ) (path sent bytes : List ℕ) → IsPartOfContent s f sent → HasContent s f bytes
    → IsPrefix (file_begun path ++ sent) (file_given (path, bytes))
part_sent s sound f path sent bytes p has =
    file_front path sent bytes (subst (IsPrefix sent) (same_content s sound f p.whole bytes p.has has) (record { rest = p.front.rest; joined = p.front.joined }))

-- the same where nothing may have been sent
pub perhaps_sent : (s : State) → IsSound s → (f : ℕ) (path sent bytes : List ℕ) → (sent ≡ []) ⊎ IsPartOfContent s f sent → HasContent s f bytes
    → IsPrefix (file_begun path ++ sent) (file_given (path, bytes))
perhaps_sent s sound f path sent bytes (inl none) has = file_front path sent bytes (subst (λ l. IsPrefix l bytes) (sym none) (record { rest = bytes; joined = refl }))
perhaps_sent s sound f path sent bytes (inr part) has = part_sent s sound f path sent bytes part has

pub no_content : (s : State) (f : ℕ) (bytes : List ℕ) → HasNoFile s f → HasContent s f bytes → ⊥
no_content s f bytes none has = let no = none has.object in let some = has.held in cc

-- all of it, and the end of the file
pub all_sent : (s : State) → IsSound s → (f : ℕ) (path sent bytes : List ℕ) → HasContent s f sent → HasContent s f bytes
    → (file_begun path ++ sent) ++ file_ended ≡ file_given (path, bytes)
all_sent s sound f path sent bytes has held =
    ap (λ t. (file_begun path ++ t) ++ file_ended) (same_content s sound f sent bytes has held)

pub all_front : (s : State) → IsSound s → (f : ℕ) (path sent bytes : List ℕ) → HasContent s f sent → HasContent s f bytes
    → IsPrefix (file_begun path ++ sent) (file_given (path, bytes))
all_front s sound f path sent bytes has held =
    file_front path sent bytes (subst (IsPrefix sent) (same_content s sound f sent bytes has held) (whole_front sent))

-- a prefix of it, where it was not sent to its end
pub unsent_front : (s : State) → IsSound s → (f : ℕ) (path sent bytes : List ℕ) (fault : StreamFault) → IsStreamed {X = Unit {0}} s f sent (Err fault) → HasContent s f bytes
    → IsPrefix (file_begun path ++ sent) (file_given (path, bytes))
unsent_front s sound f path sent bytes Writer is has = part_sent s sound f path sent bytes is has
unsent_front s sound f path sent bytes Store is has = perhaps_sent s sound f path sent bytes is has
unsent_front s sound f path sent bytes Memory is has = perhaps_sent s sound f path sent bytes is has
unsent_front s sound f path sent bytes NoSuchFile is has = absurd (no_content s f bytes is.1 has)

-- only what the sink refused is a fault of the sink
pub unsent_cause : (before after : ℕ) (fault : StreamFault)
    → (◌≡◌ {A = Result (Unit {0}) StreamFault} (Err fault) (Err Writer) → HasRisen before after)
    → ((◌≡◌ {A = Result (Unit {0}) StreamFault} (Err fault) (Err Writer) → ⊥) → after ≡ before)
    → IsCausedBy (unsent_fault fault) before after
unsent_cause before after Writer cause others = cause refl
unsent_cause before after _ cause others = others (λ is. cc)

-- and none says that the object isn't there
pub unsent_ours : (fault : StreamFault) → IsOurs (unsent_fault fault)
unsent_ours Writer = tt
unsent_ours _ = tt

-- a fault before the source was asked
pub none_streamed : {X : Type 0} (c : Condition) → ((s : State) → Represents c s → Leaves c (λ left. left ≡ s)) → (a b : SinkState) (row : FileRow) (r : Result X ExportFault)
    (e : ExportFault) → Appends a.taken b.taken [] → IsCausedBy e a.failures b.failures → IsErrAnd r (λ x. x ≡ e) → IsOurs e → IsStreamedTo c c a b (IsContentGiven row) r
none_streamed c settled a b row r e adds cause err ours = record {
  given = [];
  appends = adds;
  is = λ clean s at bytes has. faulty r e (file_given (row_path row, bytes)) [] err ours (nothing_front (file_given (row_path row, bytes)));
  cause = cause_passed a.failures a.failures b.failures r e refl cause err;
  kept = λ clean s at. err_keeps r e (Represents c s) err;
  still = unchanged c settled;
  there = ours_there r e err ours;
}
