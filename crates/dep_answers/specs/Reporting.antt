-- What a reply shows of a state that what it was made of was read from.
use Rattle.std.specs.Prelude.{◌≡◌, ℕ, Bool, true, false, List, length, Option, Some, None}
use Rattle.std.specs.FinMap as map
use Rattle.dep_types.specs.State.{State, Object, File, file_at}
use Rattle.dep_types.specs.Sound.{IsSound}
use Rattle.dep_types.specs.Rows.{file_row, object_view}
use Rattle.dep_types.specs.declared.config.Config.{Config}
use Rattle.dep_types.specs.declared.rows.FileRow.{FileRow}
use Rattle.dep_types.specs.declared.rows.ObjectView.{ObjectView}
use Rattle.dep_types.specs.declared.target.Target.{Target}
use Rattle.dep_manifest.specs.declared.algorithm.Algorithm.{Algorithm}
use Rattle.dep_manifest.specs.declared.algorithm.Algorithm.TheVariants.{Sha512}
use Rattle.dep_bag.specs.Numbered.{file_number}
use Rattle.dep_bag.specs.Parts.{tag_file_at}
use Rattle.dep_bag.specs.declared.part.TagFile.{TagFile}
use Rattle.dep_bag.specs.declared.part.TagFile.TheVariants as tag
use Rattle.dep_answers.specs.Answers.{answer, PlainText, file_reply}
use Rattle.dep_answers.specs.Bags.{shown_in_bag}
use Rattle.dep_answers.specs.Performing.{Says}
use Rattle.dep_answers.specs.Replies.{answer_to}
use Rattle.dep_answers.specs.ReadSets.{files_view, payload_view, shown_at, read_set_of, tag_read_set}
use Rattle.dep_answers.specs.Reported.{bag_answer}
use Rattle.dep_answers.specs.declared.performed.Delivery.{Delivery}
use Rattle.dep_answers.specs.declared.performed.Performed.{Performed}
use Rattle.dep_answers.specs.declared.read_set.Shown.{Shown}
use Rattle.dep_answers.specs.declared.read_set.ReadSet.TheVariants.{ObjectRow}

-- where this is shown of the state, the answer that a request gets there is said
abbrev pub SaysShown : Config → Target → Shown → Delivery → Option Performed → Type 0
SaysShown config target shown delivery said = (s : State) → IsSound s
    → shown ≡ shown_at s (read_set_of s.next target.resource target.method)
    → Says s (answer_to config s target.resource target.method) delivery said

-- where this is the row of the file at the path of a bag, its content is said
abbrev pub SaysPayload : (path : List ℕ) → FileRow → Delivery → Option Performed → Type 0
SaysPayload path row delivery said = (s : State) (n : ℕ) (f : ℕ) (it : File) → IsSound s
    → file_number path ≡ Some f → file_at s n f ≡ Some it → row ≡ file_row n f it
    → Says s (bag_answer s n path) delivery said

-- what is read of an object for a tag file that takes more than its row, or in a bare reply for its length
abbrev pub view_by : ℕ → Object → Option TagFile → (is_head_only : Bool) → ObjectView
view_by n o (Some tag.Metadata) is_head_only = object_view n o
view_by n o (Some (tag.Manifest Sha512)) false = payload_view n o
view_by n o (Some (tag.TagManifest a)) is_head_only = object_view n o
view_by n o file is_head_only = files_view n o

-- the same of the tag file at a path
abbrev pub tag_view : (path : List ℕ) → ℕ → Object → (is_head_only : Bool) → ObjectView
tag_view path n o is_head_only = view_by n o (tag_file_at path) is_head_only

-- where no file can stand at the path, and this is known of the object, its tag file there is said
abbrev pub SaysTagFile : (path : List ℕ) → (known : ℕ → Object → Type 0) → Delivery → Option Performed
    → Type 0
SaysTagFile path known delivery said = (s : State) (n : ℕ) (o : Object) → IsSound s
    → file_number path ≡ None → map.get s.objects n ≡ Some o → known n o
    → Says s (answer 200 (shown_in_bag n o path) None None) delivery said

-- this is the view that was read of it
abbrev pub IsTagView : (path : List ℕ) → ObjectView → (is_head_only : Bool) → ℕ → Object → Type 0
IsTagView path view is_head_only n o = view ≡ tag_view path n o is_head_only

-- the algorithm of the payload's manifest, where that is the tag file, and a bare reply says how long it is
abbrev pub measured_by : Option TagFile → (is_head_only : Bool) → Option Algorithm
measured_by (Some (tag.Manifest a)) true = Some a
measured_by file is_head_only = None

-- its row alone was read
abbrev pub IsShownByRow : (path : List ℕ) → (is_head_only : Bool) → ℕ → Object → Type 0
IsShownByRow path is_head_only n o = tag_read_set n (tag_file_at path) is_head_only ≡ ObjectRow n

-- how long a plain text is that has so many bytes, where the reply is a bare one
abbrev pub SaysLength : (size : ℕ) → Delivery → Option Performed → Type 0
SaysLength size delivery said = delivery.is_head_only ≡ true → (s : State) (text : List ℕ) → length text ≡ size
    → Says s (answer 200 (Some (PlainText text)) None None) delivery said

-- where this is the row of a file, its content is the reply, perhaps with a tag
abbrev pub SaysContent : FileRow → (tag : Option ℕ) → Delivery → Option Performed → Type 0
SaysContent row tag delivery said = (s : State) (file : File)
    → file_at s row.object row.file ≡ Some file → row ≡ file_row row.object row.file file
    → Says s (answer 200 (Some (file_reply row.object row.file file)) tag None) delivery said
