-- What a content is for, as the code hands it on.
use Rattle.dep_fields.specs.declared.kind.Kind.{Kind}
use Rattle.dep_fields.specs.declared.kind.Kind.TheVariants as of
use Rattle.dep_decisions.specs.declared.purpose.Purpose.{Purpose}
use Rattle.dep_decisions.specs.declared.purpose.Purpose.TheVariants.{File, Metadata, References, Opening, Segment}

-- the kind of such a content
abbrev pub kind_for : Purpose → Kind
kind_for (File name) = of.File name.now
kind_for Metadata = of.Metadata
kind_for References = of.References
kind_for (Opening o) = of.Opening o
kind_for (Segment k) = of.Segment k
