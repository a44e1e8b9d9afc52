-- No text of an answer breaks a line.
use Rattle.std.proofs.Common.{◌≡◌, ℕ, Bool, true, false, cond, List, [], ◌∷◌, ◌++◌, Option, Some, None, codes, refl, map as each}
use Rattle.std.specs.Prelude.{IsTrue, IfSome, decimal, find, bytes_eq}
use Rattle.std.specs.List.{AllByRecursion, All}
use Rattle.std.specs.Option.{option_map, option_and_then}
use Rattle.std.specs.Cmp.{nat_cmp_total}
use Rattle.std.specs.FinMap as finmap
use Rattle.std.proofs.lemmas.List.Elements.{All-head, All-tail}
use Rattle.dep_types.specs.State.{State, Object, File, file_at}
use Rattle.dep_types.specs.Sound.{IsSound}
use Rattle.dep_types.specs.Base.{IsBase}
use Rattle.dep_types.specs.declared.config.Config.{Config}
use Rattle.dep_types.specs.declared.refusal.Refusal.{Refusal}
use Rattle.dep_types.specs.declared.target.Resource.{Resource}
use Rattle.dep_types.specs.declared.target.Resource.TheVariants as at
use Rattle.dep_types.specs.declared.target.Method.{Method}
use Rattle.dep_types.specs.declared.target.Method.TheVariants.{Get, Head, Post, Put, Delete}
use Rattle.dep_reply.specs.Lines.{is_unbroken, IsUnbroken}
use Rattle.dep_reply.proofs.LineLemmas.{unbroken_both, unbroken_decimal, unbroken_media}
use Rattle.dep_reply.proofs.BaseLemmas.{unbroken_base}
use Rattle.dep_docs_out.specs.Documents.{object_url, upload_url}
use Rattle.dep_bag.proofs.Keys.{entries-held}
use Rattle.dep_answers.specs.Answers.{Answer, ReplyContent, Document, media_of, head_of, file_reply}
use Rattle.dep_answers.specs.Bags.{BagEntry, bag_entries, payload_shown, shown_in_bag}
use Rattle.dep_answers.specs.Replies.{content_at, shown_answer, status_answer, answer_to, refused_answer, last_object, last_upload}

-- no text of the answer breaks a line
record IsPlain (a : Answer) : Type 0 where
  pub content : IfSome a.content (λ c. IsTrue (is_unbroken (media_of c)))
  pub location : IfSome a.location (λ text. IsTrue (is_unbroken text))
  pub allow : IfSome a.allow (λ text. IsTrue (is_unbroken text))

media_type : (o : Option ReplyContent) → IfSome o (λ c. IsTrue (is_unbroken (media_of c)))
    → IfSome (option_map media_of o) (λ text. IsTrue (is_unbroken text))
media_type None p = tt
media_type (Some c) p = p

head_unbroken : (a : Answer) (clock : ℕ) (closes : Bool) → IsPlain a → IsUnbroken (head_of a clock closes)
head_unbroken a clock closes p = record { content_type = media_type a.content p.content; location = p.location; allow = p.allow }

-- ---- files

file_media : (s : State) → IsSound s → (n : ℕ) (o : Object) → finmap.get s.objects n ≡ Some o → (f : ℕ) (file : File)
    → finmap.get o.files f ≡ Some file → IsTrue (is_unbroken file.media)
file_media s sound n o there f file held = unbroken_media file.media ((sound.objects n o there).files f file held).media

file_content : (s : State) → IsSound s → (n f : ℕ) (o : Option Object) → finmap.get s.objects n ≡ o → (x : Option File)
    → option_and_then (λ (y : Object). finmap.get y.files f) o ≡ x
    → IfSome (option_map (file_reply n f) x) (λ c. IsTrue (is_unbroken (media_of c)))
file_content s sound n f o there None e = tt
file_content s sound n f None there (Some file) e = absurd (cc)
file_content s sound n f (Some o) there (Some file) e = file_media s sound n o there f file e

-- ---- bags

abbrev IsPlainEntry : BagEntry → Type 0
IsPlainEntry place = IsTrue (is_unbroken (media_of place.1))

found_plain : (path : List ℕ) (ps : List BagEntry) → AllByRecursion IsPlainEntry ps
    → IfSome (option_map (λ (place : BagEntry). place.1) (find (λ (place : BagEntry). bytes_eq path place.0) ps)) (λ c. IsTrue (is_unbroken (media_of c)))
found_plain path [] all = tt
found_plain path (p ∷ ps) all = go (bytes_eq path p.0) (found_plain path ps all.1)
  where
    rest : Option BagEntry
    rest = find (λ (place : BagEntry). bytes_eq path place.0) ps

    go : (b : Bool) → IfSome (option_map (λ (place : BagEntry). place.1) rest) (λ c. IsTrue (is_unbroken (media_of c)))
        → IfSome (option_map (λ (place : BagEntry). place.1) (cond b (Some p) rest)) (λ c. IsTrue (is_unbroken (media_of c)))
    go true later = all.0
    go false later = later

payload_plain : (s : State) → IsSound s → (n : ℕ) (o : Object) → finmap.get s.objects n ≡ Some o → (es : List (ℕ × File))
    → All (λ e. finmap.get o.files e.0 ≡ Some e.1) es → AllByRecursion IsPlainEntry (each (payload_shown n) es)
payload_plain s sound n o there [] held = tt
payload_plain s sound n o there (e ∷ es) held = (
  file_media s sound n o there e.0 e.1 (All-head (λ e. finmap.get o.files e.0 ≡ Some e.1) e es held),
  payload_plain s sound n o there es (All-tail (λ e. finmap.get o.files e.0 ≡ Some e.1) e es held),
)

bag_content : (s : State) → IsSound s → (n : ℕ) (path : List ℕ) (o : Option Object) → finmap.get s.objects n ≡ o
    → IfSome (option_and_then (λ (x : Object). shown_in_bag n x path) o) (λ c. IsTrue (is_unbroken (media_of c)))
bag_content s sound n path None there = tt
bag_content s sound n path (Some o) there =
    let payload = payload_plain s sound n o there (finmap.entries o.files) (entries-held nat_cmp_total finmap.nat_cmp-IsAntisymmetric o.files) in
    found_plain path (bag_entries n o) (refl, (refl, (refl, (refl, (refl, (refl, (refl, payload)))))))

-- ---- documents and URLs

document_if : {X : Type 0} (o : Option X) (f : X → List ℕ) → IfSome (option_map (λ x. Document (f x)) o) (λ c. IsTrue (is_unbroken (media_of c)))
document_if None f = tt
document_if (Some x) f = refl

text_if : {X : Type 0} (o : Option X) (f : X → ReplyContent) → ((x : X) → IsTrue (is_unbroken (media_of (f x))))
    → IfSome (option_map f o) (λ c. IsTrue (is_unbroken (media_of c)))
text_if None f plain = tt
text_if (Some x) f plain = plain x

location_if : {X : Type 0} (o : Option X) (url : List ℕ) → IsTrue (is_unbroken url)
    → IfSome (option_map (λ (x : X). url) o) (λ text. IsTrue (is_unbroken text))
location_if None url plain = tt
location_if (Some x) url plain = plain

module _ (config : Config) (base : IsBase config.base) where
  object_plain : (n : ℕ) → IsTrue (is_unbroken (object_url config n))
  object_plain n =
      unbroken_both config.base (codes "/objects/" ++ decimal n) (unbroken_base config.base base)
      (unbroken_both (codes "/objects/") (decimal n) refl (unbroken_decimal n))

  upload_plain : (u : ℕ) → IsTrue (is_unbroken (upload_url config u))
  upload_plain u =
      unbroken_both config.base (codes "/staging/" ++ decimal u) (unbroken_base config.base base)
      (unbroken_both (codes "/staging/") (decimal u) refl (unbroken_decimal u))

  content_plain : (s : State) → IsSound s → (r : Resource) → IfSome (content_at config s r) (λ c. IsTrue (is_unbroken (media_of c)))
  content_plain s sound at.Service = refl
  content_plain s sound (at.Object n) = document_if (finmap.get s.objects n) _
  content_plain s sound (at.Metadata n) = document_if (finmap.get s.objects n) _
  content_plain s sound (at.FileSet n) = tt
  content_plain s sound (at.File n f) = file_content s sound n f (finmap.get s.objects n) refl (file_at s n f) refl
  content_plain s sound at.Staging = tt
  content_plain s sound (at.Upload u) = document_if (finmap.get s.uploads u) _
  content_plain s sound (at.BagList n) = text_if (finmap.get s.objects n) _ (λ o. refl)
  content_plain s sound (at.BagFile n path) = bag_content s sound n path (finmap.get s.objects n) refl

  shown_plain : (s : State) → IsSound s → (r : Resource) → IsPlain (shown_answer config s r)
  shown_plain s sound r = record { content = content_plain s sound r; location = tt; allow = tt }

  status_plain : (s : State) (n : ℕ) → IsPlain (status_answer config s n)
  status_plain s n = record { content = document_if (finmap.get s.objects n) _; location = tt; allow = tt }

  answer_plain : (s : State) → IsSound s → (r : Resource) (m : Method) → IsPlain (answer_to config s r m)
  answer_plain s sound r Get = shown_plain s sound r
  answer_plain s sound r Head = shown_plain s sound r
  answer_plain s sound r Delete = record { content = tt; location = tt; allow = tt }
  answer_plain s sound at.Service Post = record { content = document_if (finmap.get s.objects (last_object s)) _; location = location_if (finmap.get s.objects (last_object s)) _ (object_plain (last_object s)); allow = tt }
  answer_plain s sound (at.Object n) Post = status_plain s n
  answer_plain s sound at.Staging Post = record { content = document_if (finmap.get s.uploads (last_upload s)) _; location = location_if (finmap.get s.uploads (last_upload s)) _ (upload_plain (last_upload s)); allow = tt }
  answer_plain s sound (at.Metadata n) Post = record { content = tt; location = tt; allow = tt }
  answer_plain s sound (at.FileSet n) Post = record { content = tt; location = tt; allow = tt }
  answer_plain s sound (at.File n f) Post = record { content = tt; location = tt; allow = tt }
  answer_plain s sound (at.Upload u) Post = record { content = tt; location = tt; allow = tt }
  answer_plain s sound (at.BagList n) Post = record { content = tt; location = tt; allow = tt }
  answer_plain s sound (at.BagFile n path) Post = record { content = tt; location = tt; allow = tt }
  answer_plain s sound at.Service Put = record { content = tt; location = tt; allow = tt }
  answer_plain s sound (at.Object n) Put = status_plain s n
  answer_plain s sound (at.Metadata n) Put = record { content = tt; location = tt; allow = tt }
  answer_plain s sound (at.FileSet n) Put = record { content = tt; location = tt; allow = tt }
  answer_plain s sound (at.File n f) Put = record { content = tt; location = tt; allow = tt }
  answer_plain s sound at.Staging Put = record { content = tt; location = tt; allow = tt }
  answer_plain s sound (at.Upload u) Put = record { content = tt; location = tt; allow = tt }
  answer_plain s sound (at.BagList n) Put = record { content = tt; location = tt; allow = tt }
  answer_plain s sound (at.BagFile n path) Put = record { content = tt; location = tt; allow = tt }

  pub answer_unbroken : (s : State) → IsSound s → (r : Resource) (m : Method) (clock : ℕ) (closes : Bool)
      → IsUnbroken (head_of (answer_to config s r m) clock closes)
  answer_unbroken s sound r m clock closes = head_unbroken (answer_to config s r m) clock closes (answer_plain s sound r m)

pub refused_unbroken : (r : Refusal) (allow : Option (List ℕ)) → IfSome allow (λ text. IsTrue (is_unbroken text)) → (clock : ℕ) (closes : Bool)
    → IsUnbroken (head_of (refused_answer clock r allow) clock closes)
refused_unbroken r allow plain clock closes = record { content_type = refl; location = tt; allow = plain }
