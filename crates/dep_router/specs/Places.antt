-- What a path names, before the path of a file in a bag is decoded.
use Rattle.std.specs.Prelude.{◌≡◌, ◌<◌, ⊤, ℕ, length, List, ◌++◌, Option, Some, None, codes}
use Rattle.matchit.specs.Params.{named}
use Rattle.dep_types.specs.declared.target.Resource.{Resource}
use Rattle.dep_router.specs.declared.pages.Page.{Page}
use Rattle.dep_router.specs.declared.pages.Page.TheVariants.{BagFile}
use Rattle.dep_router.specs.declared.reading.PathPlace.{PathPlace}
use Rattle.dep_router.specs.declared.reading.PathPlace.TheVariants as at
use Rattle.dep_router.specs.Targets.{bag_file}
use Rattle.dep_router.specs.Pages.{NamedParts}

-- the resource that a place is
abbrev pub resource_at : Option PathPlace → Option Resource
resource_at (Some (at.Resource resource)) = Some resource
resource_at (Some (at.InBag object path)) = bag_file object path.now
resource_at None = None

-- a path in a bag is what a parameter of its page took
abbrev pub IsPathOf : Page → NamedParts → Option PathPlace → Type 0
IsPathOf page parts (Some (at.InBag object path)) = (page ≡ BagFile) × (named (codes "path") parts ≡ Some path.now)
IsPathOf page parts _ = ⊤

-- the path is one that ends so, with at least one byte
pub record EndsWith (path end : List ℕ) : Type 0 where
  pub front : List ℕ
  pub whole : path ≡ front ++ end
  pub some : 0 < length end

-- a path in a bag is the end of the path that names it
abbrev pub EndsWithPlace : List ℕ → Option PathPlace → Type 0
EndsWithPlace path (Some (at.InBag object end)) = EndsWith path end.now
EndsWithPlace path _ = ⊤
