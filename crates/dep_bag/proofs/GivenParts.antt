-- What was given so far, what is left, and what a fault leaves.
use Rattle.std.proofs.Common.{◌≡◌, ℕ, List, [], ◌++◌, Option, Ok, Err, OnOk, refl, sym, ap, subst, ◌∙◌, append_assoc, append-nil}
use Rattle.std.specs.Io.KnownBytes.{Appends, Keeps}
use Rattle.std.proofs.KnownBytes.{Appends-nil, Appends-trans, Appends-kept}
use Rattle.std.specs.Prelude.{Result}
use Rattle.std.specs.Result.{IsErrAnd}
use Rattle.dep_types.specs.Sinks.{IsPrefix, file_begun, file_ended, file_given}
use Rattle.dep_types.specs.Writing.{HasRisen, TakesPart}
use Rattle.dep_bag.specs.Giving.{IsGivenAt, IsGivenOrPrefix, IsCausedBy, AccountsForFailures, SinkState, IsGivenTo}
use Rattle.dep_bag.specs.declared.export_fault.ExportFault.{ExportFault}
use Rattle.dep_bag.specs.declared.export_fault.ExportFault.TheVariants.{NoSuchObject, Sink, Store, Memory}

-- what was given from before until now, with no failure, and this is left of the whole
pub record Leaves (before now : SinkState) (whole left : List ℕ) : Type 0 where
  pub given : List ℕ
  pub appends : Appends before.taken now.taken given
  pub joined : whole ≡ given ++ left
  pub steady : now.failures ≡ before.failures

pub leaves_all : (before : SinkState) (whole : List ℕ) → Leaves before before whole whole
leaves_all before whole = record { given = []; appends = Appends-nil before.taken; joined = refl; steady = refl }

pub leaves_less : (a b c : SinkState) (whole one left : List ℕ) → Leaves a b whole (one ++ left) → Appends b.taken c.taken one → c.failures ≡ b.failures
    → Leaves a c whole left
leaves_less a b c whole one left l adds steady = record {
  given = l.given ++ one;
  appends = Appends-trans a.taken b.taken c.taken l.given one l.appends adds;
  joined = l.joined ∙ sym (append_assoc l.given one left);
  steady = steady ∙ l.steady;
}

pub kept : (a b c : Option (List ℕ)) (one : List ℕ) → Appends a b one → Keeps b c → Appends a c one
kept a b c one adds keeps = Appends-kept a b c one adds keeps

-- no fault of ours says that the object is not there
abbrev pub IsOurs : ExportFault → Type 0
IsOurs NoSuchObject = ⊥
IsOurs Sink = Unit {0}
IsOurs Store = Unit {0}
IsOurs Memory = Unit {0}

pub front_given : (e : ExportFault) (whole given : List ℕ) → IsOurs e → IsPrefix given whole → IsGivenAt e whole given
front_given NoSuchObject whole given ours f = ours
front_given _ whole given ours f = f

pub given_front : (e : ExportFault) (whole given : List ℕ) → IsGivenAt e whole given → IsOurs e × IsPrefix given whole
given_front NoSuchObject whole given f = absurd f
given_front _ whole given f = (tt, f)

-- an error that is this fault, after a front
pub faulty : {X : Type 0} (r : Result X ExportFault) (fault : ExportFault) (whole given : List ℕ) → IsErrAnd r (λ e. e ≡ fault) → IsOurs fault → IsPrefix given whole → IsGivenOrPrefix whole given r
faulty (Ok x) fault whole given h ours f = absurd h
faulty (Err e) fault whole given h ours f = subst (λ e. IsGivenAt e whole given) (sym h) (front_given fault whole given ours f)

-- a fault that is another than that the object isn't there
pub there_is_ours : {X : Type 0} (e : ExportFault) → (◌≡◌ {A = Result X ExportFault} (Err e) (Err NoSuchObject) → ⊥) → IsOurs e
there_is_ours NoSuchObject h = h refl
there_is_ours _ h = tt

fault_of : {X : Type 0} (x y : ExportFault) → ◌≡◌ {A = Result X ExportFault} (Err x) (Err y) → x ≡ y
fault_of x y e = cc

-- and so is an error that is it
pub ours_there : {X : Type 0} (r : Result X ExportFault) (e : ExportFault) → IsErrAnd r (λ x. x ≡ e) → IsOurs e → r ≡ Err NoSuchObject → ⊥
ours_there (Ok x) e err ours is = err
ours_there (Err x) e err ours is = subst IsOurs (sym err ∙ fault_of x NoSuchObject is) ours

-- an error owes nothing of what an Ok promises
pub err_keeps : {X : Type 0} (r : Result X ExportFault) (e : ExportFault) (P : Type 0) → IsErrAnd r (λ x. x ≡ e) → OnOk r P
err_keeps (Ok x) e P err = absurd err
err_keeps (Err x) e P err = tt

-- ---- the cause of a fault

pub caused_later : (before now after : ℕ) (fault : ExportFault) → now ≡ before → IsCausedBy fault now after → IsCausedBy fault before after
caused_later before now after Sink same cause = subst (λ n. HasRisen n after) same cause
caused_later before now after _ same cause = cause ∙ same

-- a result has its cause also where the count is told from before what was given
pub cause_later : {X : Type 0} (before now after : ℕ) (r : Result X ExportFault) → now ≡ before → AccountsForFailures r now after → AccountsForFailures r before after
cause_later before now after (Ok x) same cause = cause ∙ same
cause_later before now after (Err fault) same cause = caused_later before now after fault same cause

-- and so where the fault is passed on
pub cause_passed : {X : Type 0} (before now after : ℕ) (r : Result X ExportFault) (e : ExportFault) → now ≡ before
    → IsCausedBy e now after → IsErrAnd r (λ x. x ≡ e) → AccountsForFailures r before after
cause_passed before now after (Ok x) e same cause err = absurd err
cause_passed before now after (Err x) e same cause err = subst (λ f. IsCausedBy f before after) (sym err) (caused_later before now after e same cause)

-- ---- parts that are given

regroup : (given front rest left : List ℕ) → given ++ ((front ++ rest) ++ left) ≡ (given ++ front) ++ (rest ++ left)
regroup given front rest left = simp append_assoc

-- a prefix of what is left next was added
breaks : {X : Type 0} (a b c : SinkState) (whole one left front : List ℕ) (r : Result X ExportFault) (e : ExportFault) → Leaves a b whole (one ++ left)
    → Appends b.taken c.taken front → IsPrefix front one → IsCausedBy e b.failures c.failures → IsErrAnd r (λ x. x ≡ e) → IsOurs e → IsGivenTo a c whole r
breaks a b c whole one left front r e l adds part cause err ours = record {
  given = l.given ++ front;
  appends = Appends-trans a.taken b.taken c.taken l.given front l.appends adds;
  is = faulty r e whole (l.given ++ front) err ours
      (record { rest = part.rest ++ left; joined = l.joined ∙ ap (λ o. l.given ++ (o ++ left)) part.joined ∙ regroup l.given front part.rest left });
  cause = cause_passed a.failures b.failures c.failures r e l.steady cause err;
}

-- nothing is left
ends : {X : Type 0} (a b : SinkState) (whole : List ℕ) (x : X) → Leaves a b whole [] → IsGivenTo a b whole (Ok x)
ends a b whole x l = record { given = l.given; appends = l.appends; is = sym (l.joined ∙ append-nil l.given); cause = l.steady }

-- a part was given whole
pub part_given : {X : Type 0} (a b c : SinkState) (whole one left : List ℕ) (x : X) → Leaves a b whole (one ++ left) → IsGivenTo b c one (Ok x) → Leaves a c whole left
part_given a b c whole one left x l g = leaves_less a b c whole one left l (subst (Appends b.taken c.taken) g.is g.appends) g.cause

-- and a prefix of it, at a fault
pub part_fails : {X Y : Type 0} (a b c : SinkState) (whole one left : List ℕ) (r : Result X ExportFault) (e : ExportFault) → Leaves a b whole (one ++ left)
    → IsGivenTo {X = Y} b c one (Err e) → IsErrAnd r (λ x. x ≡ e) → IsGivenTo a c whole r
part_fails a b c whole one left r e l g err =
    let f = given_front e one g.given g.is in
    breaks a b c whole one left g.given r e l g.appends f.1 g.cause err f.0

-- the last part is given as far as it is
pub part_last : {X : Type 0} (a b c : SinkState) (whole one : List ℕ) (r : Result X ExportFault)
    → Leaves a b whole (one ++ []) → IsGivenTo b c one r → IsGivenTo a c whole r
part_last a b c whole one (Ok x) l g = ends a c whole x (part_given a b c whole one [] x l g)
part_last {X} a b c whole one (Err e) l g =
    let r : Result X ExportFault = Err e in
    part_fails a b c whole one [] r e l g refl

pub nothing_given : (a b : Option (List ℕ)) → Keeps a b → Appends a b []
nothing_given a b keeps = kept a a b [] (Appends-nil a) keeps

pub nothing_front : (whole : List ℕ) → IsPrefix [] whole
nothing_front whole = record { rest = whole; joined = refl }

-- a fault before anything was given
pub none_given : {X : Type 0} (a b : SinkState) (whole : List ℕ) (r : Result X ExportFault) (e : ExportFault) → Keeps a.taken b.taken
    → IsCausedBy e a.failures b.failures → IsErrAnd r (λ x. x ≡ e) → IsOurs e → IsGivenTo a b whole r
none_given a b whole r e keeps cause err ours = record {
  given = [];
  appends = nothing_given a.taken b.taken keeps;
  is = faulty r e whole [] err ours (nothing_front whole);
  cause = cause_passed a.failures a.failures b.failures r e refl cause err;
}

-- and before the sink was asked
pub none_asked : {X : Type 0} (a : SinkState) (whole : List ℕ) (r : Result X ExportFault) → IsErrAnd r (λ x. x ≡ Memory) → IsGivenTo a a whole r
none_asked a whole r err = record {
  given = [];
  appends = Appends-nil a.taken;
  is = faulty r Memory whole [] err tt (nothing_front whole);
  cause = cause_passed a.failures a.failures a.failures r Memory refl refl err;
}

-- ---- a file

-- a beginning, a prefix of some bytes, their rest and an end
regroup_ended : (begun front rest ended : List ℕ) → (begun ++ (front ++ rest)) ++ ended ≡ (begun ++ front) ++ (rest ++ ended)
regroup_ended begun front rest ended = simp append_assoc

-- a prefix of a file's bytes, behind its beginning
pub file_front : (path part bytes : List ℕ) → IsPrefix part bytes → IsPrefix (file_begun path ++ part) (file_given (path, bytes))
file_front path part bytes f = record {
  rest = f.rest ++ file_ended;
  joined = ap (λ t. (file_begun path ++ t) ++ file_ended) f.joined ∙ regroup_ended (file_begun path) part f.rest file_ended;
}

pub whole_front : (whole : List ℕ) → IsPrefix whole whole
whole_front whole = record { rest = []; joined = sym (append-nil whole) }

-- a file was begun
pub record IsBegun (a b : SinkState) (path : List ℕ) : Type 0 where
  pub adds : Appends a.taken b.taken (file_begun path)
  pub steady : b.failures ≡ a.failures

module _ {X : Type 0} (a b c d : SinkState) (path text seen : List ℕ) (r : Result X ExportFault) (is : seen ≡ text) (begun : IsBegun a b path) where
  -- its bytes were not taken
  pub text_breaks : TakesPart b.taken c.taken seen → HasRisen b.failures c.failures → IsErrAnd r (λ e. e ≡ Sink) → IsGivenTo a c (file_given (path, text)) r
  text_breaks p risen err = record {
    given = file_begun path ++ p.0;
    appends = Appends-trans a.taken b.taken c.taken (file_begun path) p.0 begun.adds p.2;
    is = faulty r Sink (file_given (path, text)) (file_begun path ++ p.0) err tt (file_front path p.0 text (subst (IsPrefix p.0) is (record { rest = p.1.rest; joined = p.1.joined })));
    cause = cause_passed a.failures b.failures c.failures r Sink begun.steady risen err;
  }

  -- it was not ended
  pub text_unended : Appends b.taken c.taken seen → c.failures ≡ b.failures → Keeps c.taken d.taken → HasRisen c.failures d.failures → IsErrAnd r (λ e. e ≡ Sink)
      → IsGivenTo a d (file_given (path, text)) r
  text_unended adds steady keeps risen err = record {
    given = file_begun path ++ seen;
    appends = kept a.taken c.taken d.taken (file_begun path ++ seen) (Appends-trans a.taken b.taken c.taken (file_begun path) seen begun.adds adds) keeps;
    is = faulty r Sink (file_given (path, text)) (file_begun path ++ seen) err tt (file_front path seen text (subst (IsPrefix seen) is (whole_front seen)));
    cause = cause_passed a.failures c.failures d.failures r Sink (steady ∙ begun.steady) risen err;
  }

-- it was ended
pub text_ended : {X : Type 0} (a b c d : SinkState) (path text seen : List ℕ) (x : X) → seen ≡ text → IsBegun a b path
    → Appends b.taken c.taken seen → c.failures ≡ b.failures → Appends c.taken d.taken file_ended → d.failures ≡ c.failures → IsGivenTo a d (file_given (path, text)) (Ok x)
text_ended a b c d path text seen x is begun adds steady ended still = record {
  given = (file_begun path ++ seen) ++ file_ended;
  appends = Appends-trans a.taken c.taken d.taken (file_begun path ++ seen) file_ended (Appends-trans a.taken b.taken c.taken (file_begun path) seen begun.adds adds) ended;
  is = ap (λ t. (file_begun path ++ t) ++ file_ended) is;
  cause = still ∙ (steady ∙ begun.steady);
}
