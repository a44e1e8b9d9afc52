-- What the content of a request is for, and which kinds an operation takes.
use Rattle.std.specs.Prelude.{ℕ, ◌&&◌, not, Bool, true, false, List, [], ◌∷◌, Option, Some, None, if◌then◌else◌}
use Rattle.dep_types.specs.declared.target.Resource.{Resource}
use Rattle.dep_types.specs.declared.target.Resource.TheVariants.{Service, Object, Metadata, FileSet, File, Staging, Upload}
use Rattle.dep_types.specs.declared.target.Method.{Method}
use Rattle.dep_types.specs.declared.target.Method.TheVariants.{Post, Put}
use Rattle.dep_fields.specs.declared.field.Field.{Field}
use Rattle.dep_fields.specs.declared.field.Field.TheVariants.{Absent, Bad, Value}
use Rattle.dep_fields.specs.declared.kind.Kind.{Kind}
use Rattle.dep_fields.specs.declared.kind.Kind.TheVariants as of
use Rattle.dep_decisions.specs.declared.operation.Operation.{Operation}

-- In-Progress is there and true
abbrev pub is_true : Field Bool → Bool
is_true (Value b) = b
is_true Bad = false
is_true Absent = false

abbrev pub is_deposit : Kind → Bool
is_deposit (of.File name) = true
is_deposit of.Metadata = true
is_deposit of.References = true
is_deposit _ = false

-- the kinds that this method of this resource takes
abbrev pub takes_kind : Resource → Method → Kind → Bool
takes_kind Service Post (of.File name) = true
takes_kind Service Post of.Metadata = true
takes_kind Service Post of.References = true
takes_kind (Object n) Post (of.File name) = true
takes_kind (Object n) Post of.Metadata = true
takes_kind (Object n) Post of.References = true
takes_kind (Object n) Put (of.File name) = true
takes_kind (Object n) Put of.Metadata = true
takes_kind (Object n) Put of.References = true
takes_kind (Metadata n) Put of.Metadata = true
takes_kind (FileSet n) Put (of.File name) = true
takes_kind (FileSet n) Put of.References = true
takes_kind (File n f) Put (of.File name) = true
takes_kind Staging Post (of.Opening o) = true
takes_kind (Upload u) Post (of.Segment k) = true
takes_kind _ _ _ = false

abbrev pub is_empty : List ℕ → Bool
is_empty [] = true
is_empty (b ∷ bs) = false

-- an opening has an empty content
abbrev pub may_hold : Kind → List ℕ → Bool
may_hold (of.Opening o) content = is_empty content
may_hold _ content = true

-- the kind where Content-Disposition is absent
abbrev pub kind_without : Resource → Method → Option Kind
kind_without (Metadata n) Put = Some of.Metadata
kind_without _ _ = None

abbrev pub kind_by : Operation → Field Kind → Option Kind
kind_by op (Value k) =
    if takes_kind op.target.resource op.target.method k && may_hold k op.content
    then Some k else None
kind_by op Bad = None
kind_by op Absent = kind_without op.target.resource op.target.method

-- what the content is for, where the operation takes it so
unfoldable pub content_kind : Operation → Option Kind
content_kind op = kind_by op op.fields.disposition

-- ---- completions

abbrev pub is_absent : Field Kind → Bool
is_absent Absent = true
is_absent _ = false

abbrev pub may_complete : Resource → Method → Bool
may_complete (Object n) Post = true
may_complete _ _ = false

-- an object is completed by a request without any content that isn't in progress
unfoldable pub is_completion : Operation → Bool
is_completion op =
    may_complete op.target.resource op.target.method && is_absent op.fields.disposition
    && is_empty op.content && not (is_true op.fields.in_progress)
