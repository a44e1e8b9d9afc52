-- Tables of version 1 that gained the values of their files represent the same state.
use Rattle.std.proofs.Common.{◌≡◌, ℕ, List, Some, ap, ◌∙◌}
use Rattle.std.specs.FinMap as finmap
use Rattle.sha2.specs.Sha512.{sha512}
use Rattle.sqlite_trees.proofs.ListLemmas.{all_weaker}
use Rattle.dep_fixity.specs.declared.hasher.Digests.{Digests}
use Rattle.dep_types.specs.State.{State, File}
use Rattle.dep_types.specs.Sound.{IsSound}
use Rattle.dep_tables.specs.Rowids.{IsOrdered}
use Rattle.dep_tables.specs.Tables.{Tables}
use Rattle.dep_tables.specs.declared.owner.BlockOwner.TheVariants as owner
use Rattle.dep_tables.specs.declared.sha512s.FileSha512.{FileSha512}
use Rattle.dep_row_maps.specs.TablesAre.{TablesAre, OlderTablesAre, files_at}
use Rattle.dep_row_maps.specs.Sha512s.{upgraded, AreOfContents}
use Rattle.dep_row_maps.proofs.Blocks.{blocks-sorted}
use Rattle.dep_row_maps.proofs.Upgraded.{tables_upgraded}
use Rattle.dep_schema.specs.Sent as sent
use Rattle.dep_schema.specs.Sha512s.{IsSha512OfFile, AreValuesOf}
use Rattle.dep_schema.proofs.Streams.{parts_joined}

module _ (t : Tables) (s : State) (h : OlderTablesAre t s) where
  -- the value of a file's blocks is that of its content
  of_content : (v : FileSha512) → IsSha512OfFile t v → (n : ℕ) (file : File) → finmap.get (files_at s.objects n) v.file ≡ Some file → v.value ≡ sha512 file.content
  of_content v (digests, its, is) n file there =
      is ∙ ap (λ (d : Digests). d.sha512) its.are
      ∙ ap sha512 (ap sent.joined_blobs (blocks-sorted t.blocks h.common.parts h.common.blocks (owner.File v.file) its.rows its.ordered.same its.ordered.sorted)
      ∙ parts_joined (h.common.parts (owner.File v.file)) ∙ (h.common.files_parts.of_files n v.file file there).joins)

  pub of_contents : (values : List FileSha512) → AreValuesOf t values → AreOfContents s.objects values
  of_contents values are = all_weaker (IsSha512OfFile t) _ of_content values are.each

  pub stand_upgraded : IsSound s → IsOrdered t.files → (values : List FileSha512) → AreValuesOf t values → TablesAre (upgraded values t) s
  stand_upgraded sound up values are = tables_upgraded t s h sound up values are.numbered (of_contents values are)
