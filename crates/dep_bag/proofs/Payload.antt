-- The files of a payload, one after another.
use Rattle.std.proofs.Common.{◌≡◌, ℕ, suc, ◌+◌, ◌<◌, arith, List, [], ◌∷◌, ◌++◌, length, drop, get_or, drop-cons, Ok, Err, refl, sym, ap, subst, ◌∙◌, append_assoc, append-nil}
use Rattle.std.specs.Prelude.{Result, flat_map}
use Rattle.std.specs.Io.KnownBytes.{Appends}
use Rattle.std.proofs.KnownBytes.{Appends-nil, Appends-trans}
use Rattle.std.proofs.lemmas.Grind.{flat_map-append}
use Rattle.dep_types.specs.State.{State}
use Rattle.dep_types.specs.Conditions.{Condition, Represents, HasCleanDisk, Leaves}
use Rattle.dep_types.specs.Sinks.{PathAndBytes, IsPrefix, file_given}
use Rattle.dep_types.specs.declared.rows.FileRow.{FileRow}
use Rattle.dep_types.specs.Streams.{HasContent}
use Rattle.dep_manifest.specs.Reported.{row_path}
use Rattle.std.specs.Result.{IsErrAnd}
use Rattle.dep_bag.specs.Source.{StandsStill}
use Rattle.dep_bag.proofs.Still.{unchanged, still_then}
use Rattle.dep_bag.specs.Giving.{AreFilesOf, SinkState, IsStreamedTo, IsContentGiven, AreContentsGiven}
use Rattle.dep_bag.specs.declared.export_fault.ExportFault.{ExportFault}
use Rattle.dep_bag.proofs.GivenParts.{IsOurs, there_is_ours, ours_there, err_keeps, cause_passed, faulty, given_front}

-- the files that were given, and those of the rows that are left
pub record IsSplit (s : State) (left : List FileRow) (files : List PathAndBytes) (given : List ℕ) : Type 0 where
  pub done : List PathAndBytes
  pub rest : List PathAndBytes
  pub joined : files ≡ done ++ rest
  pub are : AreFilesOf s left rest
  pub is : given ≡ flat_map file_given done

-- what was given for the rows so far
pub record SoFar (old now : Condition) (before after : SinkState) (rows left : List FileRow) : Type 0 where
  pub given : List ℕ
  pub appends : Appends before.taken after.taken given
  pub steady : after.failures ≡ before.failures
  pub still : StandsStill old now
  pub kept : HasCleanDisk now → (s : State) → Represents old s → Represents now s
  pub split : HasCleanDisk now → (s : State) → Represents old s → (files : List PathAndBytes) → AreFilesOf s rows files → IsSplit s left files given

pub none_so_far : (old : Condition) (before : SinkState) (rows : List FileRow)
    → ((s : State) → Represents old s → Leaves old (λ left. left ≡ s)) → SoFar old old before before rows rows
none_so_far old before rows settled = record {
  given = [];
  appends = Appends-nil before.taken;
  steady = refl;
  still = unchanged old settled;
  kept = λ c s at. at;
  split = λ c s at files are. record { done = []; rest = files; joined = refl; are = are; is = refl };
}

regroup : {X : Type 0} (done : List X) (file : X) (rest : List X) → done ++ file ∷ rest ≡ (done ++ file ∷ []) ++ rest
regroup done file rest = sym (append_assoc done (file ∷ []) rest)

-- one more file was given
split_more : (s : State) (row : FileRow) (left : List FileRow) (files : List PathAndBytes) (given more : List ℕ) (done rest : List PathAndBytes)
    → files ≡ done ++ rest → AreFilesOf s (row ∷ left) rest → given ≡ flat_map file_given done
    → ((bytes : List ℕ) → HasContent s row.file bytes → more ≡ file_given (row_path row, bytes)) → IsSplit s left files (given ++ more)
split_more s row left files given more done [] joined are is gives = absurd are
split_more s row left files given more done (file ∷ rest) joined are is gives = record {
  done = done ++ file ∷ [];
  rest = rest;
  joined = joined ∙ regroup done file rest;
  are = are.2;
  is = (λ i. is i ++ (gives file.1 are.1 ∙ ap (λ p. file_given (p, file.1)) (sym are.0) ∙ sym (append-nil (file_given file))) i)
      ∙ sym (flat_map-append file_given done (file ∷ []));
}

moved : (given more rest after : List ℕ) → given ++ ((more ++ rest) ++ after) ≡ (given ++ more) ++ (rest ++ after)
moved given more rest after = simp append_assoc

-- the fault came in the middle of a file
split_front : (s : State) (row : FileRow) (left : List FileRow) (files : List PathAndBytes) (given more : List ℕ) (done rest : List PathAndBytes)
    → files ≡ done ++ rest → AreFilesOf s (row ∷ left) rest → given ≡ flat_map file_given done
    → ((bytes : List ℕ) → HasContent s row.file bytes → IsPrefix more (file_given (row_path row, bytes))) → IsPrefix (given ++ more) (flat_map file_given files)
split_front s row left files given more done [] joined are is gives = absurd are
split_front s row left files given more done (file ∷ rest) joined are is gives =
    let front = gives file.1 are.1 in
    let whole : file_given file ≡ more ++ front.rest = ap (λ p. file_given (p, file.1)) are.0 ∙ front.joined in
    record {
      rest = front.rest ++ flat_map file_given rest;
      joined = ap (flat_map file_given) joined ∙ flat_map-append file_given done (file ∷ rest)
          ∙ (λ i. sym is i ++ (whole i ++ flat_map file_given rest)) ∙ moved given more front.rest (flat_map file_given rest);
    }

next_row : (rows : List FileRow) (i : ℕ) (row : FileRow) → i < length rows → row ≡ get_or rows i row → drop i rows ≡ row ∷ drop (i + 1) rows
next_row rows i row inside is =
    let one_more : suc i ≡ i + 1 = omega arith in
    drop-cons rows i row inside ∙ ap (λ r. r ∷ drop (suc i) rows) (sym is) ∙ ap (λ k. row ∷ drop k rows) one_more

pub one_more : {X : Type 0} (old mid now : Condition) (before between after : SinkState) (rows : List FileRow) (i : ℕ) (row : FileRow) (x : X)
    → i < length rows → row ≡ get_or rows i row → SoFar old mid before between rows (drop i rows)
    → IsStreamedTo mid now between after (IsContentGiven row) (Ok x) → SoFar old now before after rows (drop (i + 1) rows)
one_more old mid now before between after rows i row x inside is far gave =
    let next = next_row rows i row inside is in
    record {
      given = far.given ++ gave.given;
      appends = Appends-trans before.taken between.taken after.taken far.given gave.given far.appends gave.appends;
      steady = gave.cause ∙ far.steady;
      still = still_then old mid now far.kept far.still gave.still;
      kept = λ c s at. gave.kept c s (far.kept (gave.still.honest_before c) s at);
      split = λ c s at files are.
          let was = far.split (gave.still.honest_before c) s at files are in
          split_more s row (drop (i + 1) rows) files far.given gave.given was.done was.rest was.joined (subst (λ l. AreFilesOf s l was.rest) next was.are) was.is
          (λ bytes has. gave.is c s (far.kept (gave.still.honest_before c) s at) bytes has);
    }

pub one_fails : {X Y : Type 0} (old mid now : Condition) (before between after : SinkState) (rows : List FileRow) (i : ℕ) (row : FileRow) (e : ExportFault)
    (r : Result X ExportFault) → i < length rows → row ≡ get_or rows i row → SoFar old mid before between rows (drop i rows)
    → IsStreamedTo {X = Y} mid now between after (IsContentGiven row) (Err e) → IsErrAnd r (λ x. x ≡ e) → IsStreamedTo old now before after (AreContentsGiven rows) r
one_fails {X} {Y} old mid now before between after rows i row e r inside is far gave err =
    let next = next_row rows i row inside is in
    let ours : IsOurs e = there_is_ours {X = Y} e gave.there in
    record {
      given = far.given ++ gave.given;
      appends = Appends-trans before.taken between.taken after.taken far.given gave.given far.appends gave.appends;
      is = λ c s at files are.
          let was = far.split (gave.still.honest_before c) s at files are in
          let front = split_front s row (drop (i + 1) rows) files far.given gave.given was.done was.rest was.joined (subst (λ l. AreFilesOf s l was.rest) next was.are) was.is
          (λ bytes has. (given_front e (file_given (row_path row, bytes)) gave.given (gave.is c s (far.kept (gave.still.honest_before c) s at) bytes has)).1) in
          faulty r e (flat_map file_given files) (far.given ++ gave.given) err ours front;
      cause = cause_passed before.failures between.failures after.failures r e far.steady gave.cause err;
      kept = λ c s at. err_keeps r e (Represents now s) err;
      still = still_then old mid now far.kept far.still gave.still;
      there = ours_there r e err ours;
    }

all_done : (s : State) (files : List PathAndBytes) (given : List ℕ) (done rest : List PathAndBytes) → files ≡ done ++ rest → AreFilesOf s [] rest → given ≡ flat_map file_given done
    → given ≡ flat_map file_given files
all_done s files given done [] joined are is = is ∙ ap (flat_map file_given) (sym (append-nil done) ∙ sym joined)
all_done s files given done (file ∷ rest) joined are is = absurd are

-- every file was given
pub all_given : {X : Type 0} (old now : Condition) (before after : SinkState) (rows left : List FileRow) (x : X) → left ≡ []
    → SoFar old now before after rows left → IsStreamedTo old now before after (AreContentsGiven rows) (Ok x)
all_given old now before after rows left x none far = record {
  given = far.given;
  appends = far.appends;
  is = λ c s at files are. let was = far.split c s at files are in
      all_done s files far.given was.done was.rest was.joined (subst (λ l. AreFilesOf s l was.rest) none was.are) was.is;
  cause = far.steady;
  kept = far.kept;
  still = far.still;
  there = λ is. cc;
}
