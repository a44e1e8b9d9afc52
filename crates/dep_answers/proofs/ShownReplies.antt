-- Replies that show files, by what was read of them.
use Rattle.std.proofs.Common.{◌≡◌, ℕ, Bool, List, Option, Some, None, refl, sym, ap, subst, ◌∙◌, true}
use Rattle.std.specs.Option.{option_map, option_map_or, option_and_then}
use Rattle.std.specs.FinMap as finmap
use Rattle.dep_types.specs.State.{State, Object, File, file_at}
use Rattle.dep_types.specs.Rows.{file_row}
use Rattle.dep_types.specs.declared.rows.FileRow.{FileRow}
use Rattle.dep_types.specs.Methods.{is_safe}
use Rattle.dep_types.specs.declared.config.Config.{Config}
use Rattle.dep_types.specs.declared.target.Method.{Method}
use Rattle.dep_types.specs.declared.target.Method.TheVariants.{Get, Head, Post, Put, Delete}
use Rattle.dep_types.specs.declared.target.Resource.{Resource}
use Rattle.dep_answers.specs.Answers.{Answer, answer, is_silent, file_reply}
use Rattle.dep_answers.specs.Bags.{shown_in_bag}
use Rattle.dep_answers.specs.Performing.{IsReply, Says}
use Rattle.dep_answers.specs.Replies.{answer_to, shown_answer}
use Rattle.dep_answers.specs.Steps.{is_head}
use Rattle.dep_answers.specs.ReadSets.{shown_at, read_set_at, read_set_of}
use Rattle.dep_answers.specs.Reported.{file_answer, bag_answer}
use Rattle.dep_answers.specs.Reporting.{SaysContent}
use Rattle.dep_answers.specs.declared.performed.Delivery.{Delivery}
use Rattle.dep_answers.specs.declared.performed.FileId.{FileId}
use Rattle.dep_answers.specs.declared.performed.Performed.{Performed}
use Rattle.dep_answers.specs.declared.read_set.Shown.{Shown}
use Rattle.dep_answers.specs.declared.read_set.Shown.TheVariants as shown
use Rattle.dep_answers.specs.declared.read_set.ReadSet.TheVariants as read_set

-- the same reply, where the answer is another's
pub says_as : (s : State) (a b : Answer) (delivery : Delivery) (said : Option Performed) → a ≡ b → Says s a delivery said → Says s b delivery said
says_as s a b delivery said e r = subst (λ (x : Answer). Says s x delivery said) e r

pub replies_as : (s : State) (a b : Answer) (delivery : Delivery) (p : Performed) → a ≡ b → IsReply s a delivery p → IsReply s b delivery p
replies_as s a b delivery p e r = subst (λ (x : Answer). IsReply s x delivery p) e r

-- an answer with nothing to show
pub nothing_said : (a : Answer) → answer 200 None None None ≡ a → is_silent a ≡ true
nothing_said a e = sym (ap (λ (x : Answer). is_silent x) e)

-- ---- a file

pub file_in : (n f : ℕ) (row : FileRow) (o : Option File)
    → shown.File row ≡ option_map_or (λ (x : File). shown.File (file_row n f x)) o shown.Nothing
    → (file : File) × ((o ≡ Some file) × (row ≡ file_row n f file))
file_in n f row None e = absurd (cc)
file_in n f row (Some file) e = (file, (refl, cc e))

-- where a row is that of this file, the reply with the row's content is the file's
pub says_row : (row : FileRow) (tag : Option ℕ) (delivery : Delivery) (said : Option Performed) → SaysContent row tag delivery said
    → (s : State) (n f : ℕ) (file : File) → file_at s n f ≡ Some file → row ≡ file_row n f file
    → Says s (answer 200 (Some (file_reply n f file)) tag None) delivery said
says_row row tag delivery said says s n f file there is =
    says_as s (answer 200 (Some (file_reply row.object row.file file)) tag None) (answer 200 (Some (file_reply n f file)) tag None) delivery said
    (ap (λ (r : FileRow). answer 200 (Some (file_reply r.object r.file file)) tag None) is)
    (says s file (ap (λ (r : FileRow). file_at s r.object r.file) is ∙ there)
    (is ∙ ap (λ (r : FileRow). file_row r.object r.file file) (sym is)))

pub file_reply_is : (s : State) (id : FileId) (row : FileRow) (sh : Shown) (delivery : Delivery) (said : Option Performed)
    → sh ≡ shown.File row → sh ≡ shown_at s (read_set.File id) → SaysContent row (Some row.tag) delivery said
    → Says s (file_answer s id) delivery said
file_reply_is s id row sh delivery said is e says =
    let found = file_in id.object id.file row (file_at s id.object id.file) (sym is ∙ e) in
    let file : File = found.0 in
    let there : file_at s id.object id.file ≡ Some file = found.1.0 in
    let of : row ≡ file_row id.object id.file file = found.1.1 in
    says_as s (answer 200 (Some (file_reply id.object id.file file)) (Some row.tag) None) (file_answer s id) delivery said
    (ap (λ (r : FileRow). answer 200 (Some (file_reply id.object id.file file)) (Some r.tag) None) of
    ∙ ap (λ (o : Option File). answer 200 (option_map (file_reply id.object id.file) o) (option_map (λ (x : File). x.tag) o) None) (sym there))
    (says_row row (Some row.tag) delivery said says s id.object id.file file there of)

pub no_file : (n f : ℕ) (sh : Shown) (o : Option File) → ((row : FileRow) → sh ≡ shown.File row → ⊥)
    → sh ≡ option_map_or (λ (x : File). shown.File (file_row n f x)) o shown.Nothing → o ≡ None
no_file n f sh None not e = refl
no_file n f sh (Some file) not e = absurd (not (file_row n f file) e)

-- ---- a bag

-- what was read of the object is what its tag file at the path is shown by
pub tag_reply_is : (s : State) (n : ℕ) (path : List ℕ) (delivery : Delivery) (said : Option Performed)
    → (o : Object) → finmap.get s.objects n ≡ Some o
    → Says s (answer 200 (shown_in_bag n o path) None None) delivery said
    → Says s (bag_answer s n path) delivery said
tag_reply_is s n path delivery said o there says =
    says_as s (answer 200 (shown_in_bag n o path) None None) (bag_answer s n path) delivery said
    (ap (λ (x : Option Object). answer 200 (option_and_then (λ (y : Object). shown_in_bag n y path) x) None None) (sym there))
    says

pub no_bag_answer : (s : State) (n : ℕ) (path : List ℕ) → finmap.get s.objects n ≡ None → answer 200 None None None ≡ bag_answer s n path
no_bag_answer s n path none =
    ap (λ (o : Option Object). answer 200 (option_and_then (λ (x : Object). shown_in_bag n x path) o) None None) (sym none)

-- ---- by the resource

-- the reply that shows a resource that is this one
pub shows : (config : Config) (s : State) (sh : Shown) (delivery : Delivery) (said : Option Performed) (r q : Resource) → r ≡ q
    → (sh ≡ shown_at s (read_set_at q delivery.is_head_only) → Says s (shown_answer config s q) delivery said)
    → sh ≡ shown_at s (read_set_at r delivery.is_head_only) → Says s (shown_answer config s r) delivery said
shows config s sh delivery said r q is says =
    subst (λ (x : Resource). sh ≡ shown_at s (read_set_at x delivery.is_head_only) → Says s (shown_answer config s x) delivery said) (sym is) says

-- what a GET shows, or in a bare reply a HEAD, is the answer to it
pub shows_safe : (config : Config) (s : State) (sh : Shown) (delivery : Delivery) (said : Option Performed) (r : Resource) (m : Method)
    → is_safe m ≡ true → delivery.is_head_only ≡ is_head m
    → (sh ≡ shown_at s (read_set_at r delivery.is_head_only) → Says s (shown_answer config s r) delivery said)
    → sh ≡ shown_at s (read_set_of s.next r m) → Says s (answer_to config s r m) delivery said
shows_safe config s sh delivery said r Get safe head_only says e = says (e ∙ ap (λ (b : Bool). shown_at s (read_set_at r b)) (sym head_only))
shows_safe config s sh delivery said r Head safe head_only says e = says (e ∙ ap (λ (b : Bool). shown_at s (read_set_at r b)) (sym head_only))
shows_safe config s sh delivery said r Post safe head_only says e = absurd (cc)
shows_safe config s sh delivery said r Put safe head_only says e = absurd (cc)
shows_safe config s sh delivery said r Delete safe head_only says e = absurd (cc)
