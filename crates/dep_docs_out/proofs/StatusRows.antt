-- What a status document is read as tells its rows.
use Rattle.std.proofs.Common.{◌≡◌, ◌∙◌, ◌++◌, ℕ, List, [], ◌∷◌, map, min, codes, decimal, Option, Some, None, true, refl, sym, subst, arith}
use Rattle.serde_json.specs.Data.{Data}
use Rattle.serde_json.specs.Read.{read}
use Rattle.serde_json.proofs.OnLiterals.{serde_json_on_literals}
use Rattle.dep_moment.specs.Civil.{rfc3339_text}
use Rattle.dep_types.specs.Limits.{greatest_moment}
use Rattle.dep_types.specs.declared.config.Config.{Config}
use Rattle.dep_types.specs.declared.rows.FileRow.{FileRow}
use Rattle.dep_types.specs.declared.rows.ObjectView.{ObjectView}
use Rattle.dep_docs_out.specs.Documents.{file_url, status_data, status_document, object_members, links_data, state_members, actions_data, part_data, states_data, link_data, deposit_members, behalf_members, kept_members, relations_data}
use Rattle.dep_docs_out.specs.Json.{sorted_object, items}
use Rattle.dep_docs_out.specs.ReadBack.{text_at, DocumentsFile, ReportsFiles, DocumentsObject}
use Rattle.dep_docs_out.proofs.ReadingBack.{is_plain, read_back}
use Rattle.dep_docs_out.proofs.LinksReadBack.{links_plain}

pub status_plain : (config : Config) (view : ObjectView) → is_plain (status_data config view) 4 ≡ true
unfolding status_data object_members links_data state_members actions_data part_data states_data
status_plain config view = rw (links_plain config view.object.object view.files) refl

abbrev link_of : Config → ℕ → FileRow → Option (List ℕ) → Data
link_of config n file behalf = sorted_object (deposit_members config (file_url config n file.file) file ++ behalf_members behalf ++ kept_members file)

link_reports : (config : Config) (n : ℕ) (file : FileRow) → DocumentsFile config n file (link_data config n file)
unfolding link_data deposit_members kept_members relations_data serde_json_on_literals
link_reports config n file =
    let behalf = file.behalf in
    record {
      place = elim behalf as (λ b. text_at (codes "@id") (link_of config n file b) ≡ Some (file_url config n file.file)) [ None ↦ refl | Some name ↦ refl ];
      media = elim behalf as (λ b. text_at (codes "contentType") (link_of config n file b) ≡ Some file.media) [ None ↦ refl | Some name ↦ refl ];
      tag = elim behalf as (λ b. text_at (codes "eTag") (link_of config n file b) ≡ Some (decimal file.tag)) [ None ↦ refl | Some name ↦ refl ];
      date = elim behalf as (λ b. text_at (codes "depositedOn") (link_of config n file b) ≡ Some (rfc3339_text (min file.deposited greatest_moment))) [ None ↦ refl | Some name ↦ refl ];
      behalf = elim behalf as (λ b. text_at (codes "depositedOnBehalfOf") (link_of config n file b) ≡ b) [ None ↦ refl | Some name ↦ refl ];
    }

links_report : (config : Config) (n : ℕ) (files : List FileRow) → ReportsFiles config n files (items (map (link_data config n) files))
links_report config n [] = tt
links_report config n (file ∷ files) = (link_reports config n file, links_report config n files)

status_reports : (config : Config) (view : ObjectView) → DocumentsObject config view (status_data config view)
unfolding status_data object_members links_data state_members actions_data part_data states_data serde_json_on_literals
status_reports config view = record {
  place = refl;
  tag = refl;
  metadata_tag = refl;
  files_tag = refl;
  links = items (map (link_data config view.object.object) view.files);
  listed = refl;
  reported = links_report config view.object.object view.files;
}

same : (d e : Data) → Some d ≡ Some e → d ≡ e
same d e h = cc h

pub reports : (config : Config) (view : ObjectView) (d : Data) → read (status_document config view) ≡ Some d → DocumentsObject config view d
reports config view d h =
    let back = read_back (status_data config view) 4 (omega arith) (status_plain config view) in
    subst (DocumentsObject config view) (same (status_data config view) d (sym back ∙ h)) (status_reports config view)
