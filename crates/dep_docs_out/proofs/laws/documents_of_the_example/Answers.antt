use Rattle.std.proofs.Common.{refl, [], ◌∷◌, codes, nat_cmp}
use Rattle.std.specs.FinMap as finmap
use Rattle.std.specs.Fmt.{digits}
use Rattle.std.specs.Cmp.Lexicographic.{slice_cmp}
use Rattle.serde_json.proofs.OnLiterals.{serde_json_on_literals}
use Rattle.dep_moment.proofs.OnLiterals.{moment_on_literals}
use Rattle.dep_types.specs.State.{File}
use Rattle.dep_docs_out.specs.Documents.{actions_data, bag_metadata_data, bag_metadata_document, deposit_members, error_data, kept_members, link_data, links_data, metadata_data, object_members, part_data, relations_data, segments_data, service_data, service_limits, service_offers, service_places, state_members, states_data, status_data, upload_data}
use Rattle.dep_docs_out.specs.ExampleDocuments.{bag_metadata_text, empty_text, error_text, example_file, example_posted, example_referred, metadata_text, service_text, status_text, unfinished_text, upload_text}
use Rattle.dep_docs_out.proofs.laws.documents_of_the_example.Goals as goal

pub returns-clause-service : goal.returns-clause-service
unfolding service_data service_offers service_limits service_places service_text serde_json_on_literals digits
returns-clause-service c =
    refl

pub returns-clause-error : goal.returns-clause-error
unfolding error_data error_text serde_json_on_literals moment_on_literals digits
returns-clause-error c =
    refl

pub returns-clause-status : goal.returns-clause-status
unfolding status_data object_members links_data state_members actions_data part_data link_data deposit_members relations_data kept_members states_data status_text serde_json_on_literals moment_on_literals digits
returns-clause-status c =
    rw (finmap.entries-from_sorted nat_cmp ((1, example_file) ∷ []) tt) refl

pub returns-clause-in_progress : goal.returns-clause-in_progress
unfolding status_data object_members links_data state_members actions_data part_data link_data deposit_members relations_data kept_members states_data unfinished_text serde_json_on_literals moment_on_literals digits
returns-clause-in_progress c =
    rw (finmap.entries-from_sorted nat_cmp ((3, example_posted) ∷ (12, example_referred) ∷ []) tt) refl

pub returns-clause-empty : goal.returns-clause-empty
unfolding status_data object_members links_data state_members actions_data part_data link_data deposit_members relations_data kept_members states_data empty_text serde_json_on_literals moment_on_literals digits
returns-clause-empty c =
    rw (finmap.entries-from_sorted {X = File} nat_cmp [] tt) refl

pub returns-clause-titles : goal.returns-clause-titles
unfolding metadata_data metadata_text serde_json_on_literals digits
returns-clause-titles c =
    rw (finmap.entries-from_sorted (slice_cmp nat_cmp) ((codes "dc:title", codes "T" ∷ codes "U" ∷ codes "V" ∷ []) ∷ []) tt) refl

pub returns-clause-bag : goal.returns-clause-bag
unfolding bag_metadata_document bag_metadata_data bag_metadata_text serde_json_on_literals
returns-clause-bag c =
    rw (finmap.entries-from_sorted (slice_cmp nat_cmp) ((codes "dc:title", codes "T" ∷ []) ∷ []) tt) refl

pub returns-clause-upload : goal.returns-clause-upload
unfolding upload_data segments_data upload_text serde_json_on_literals digits
returns-clause-upload c =
    refl
