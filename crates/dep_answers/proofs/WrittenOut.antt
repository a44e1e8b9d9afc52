-- Replies that are written out.
use Rattle.std.proofs.Common.{◌≡◌, ◌∙◌, ℕ, Bool, true, false, List, [], ◌∷◌, Option, Some, None, codes, refl, ap, nat_cmp}
use Rattle.std.specs.Fmt.{digits}
use Rattle.std.specs.Option.{option_map, option_and_then}
use Rattle.std.specs.FinMap as finmap
use Rattle.serde_json.proofs.OnLiterals.{serde_json_on_literals}
use Rattle.dep_types.specs.State.{Object, File, Upload, file_at}
use Rattle.dep_types.specs.Rows.{object_view, upload_row}
use Rattle.dep_types.specs.declared.target.Resource.TheVariants as at
use Rattle.dep_types.specs.declared.target.Method.TheVariants.{Get, Put, Post}
use Rattle.dep_moment.proofs.OnLiterals.{moment_on_literals}
use Rattle.dep_reply.proofs.OnLiterals.{reply_on_literals}
use Rattle.dep_docs_out.specs.Documents.{status_document, upload_document, object_url, status_data, object_members, links_data, state_members, actions_data, part_data, link_data, deposit_members, relations_data, kept_members, states_data, segments_data, upload_data}
use Rattle.dep_docs_out.specs.ExampleDocuments.{example_config, example_object, example_file, status_text, upload_text}
use Rattle.dep_answers.specs.Answers.{Answer, Document, StoredContent, answer, file_reply}
use Rattle.dep_answers.specs.Replies.{answer_to, front_text, stored_text}
use Rattle.dep_answers.specs.Examples.{example_state, example_staged, created_reply, upload_reply, file_head, changed_reply}

there : finmap.get example_state.objects 1 ≡ Some example_object
there = finmap.get-from_sorted nat_cmp ((1, example_object) ∷ []) 1 tt

staged : finmap.get example_state.uploads 1 ≡ Some example_staged
staged = finmap.get-from_sorted nat_cmp ((1, example_staged) ∷ []) 1 tt

file : file_at example_state 1 1 ≡ Some example_file
file = ap (option_and_then (λ (o : Object). finmap.get o.files 1)) there ∙ finmap.get-from_sorted nat_cmp ((1, example_file) ∷ []) 1 tt

-- ---- documents

status_is : status_document example_config (object_view 1 example_object) ≡ status_text
unfolding serde_json_on_literals moment_on_literals digits status_data object_members links_data state_members actions_data part_data link_data deposit_members relations_data kept_members states_data status_text
status_is = rw (finmap.entries-from_sorted nat_cmp ((1, example_file) ∷ []) tt) refl

upload_by : upload_document example_config (upload_row 1 example_staged) (1 ∷ 3 ∷ []) ≡ upload_text
unfolding segments_data upload_data upload_text serde_json_on_literals digits
upload_by = refl

upload_is : upload_document example_config (upload_row 1 example_staged) (finmap.keys example_staged.segments) ≡ upload_text
upload_is = rw (finmap.entries-from_sorted nat_cmp ((1, codes "ab") ∷ (3, codes "e") ∷ []) tt) upload_by

-- ---- replies

created_by : front_text (answer 201 (Some (Document status_text)) (Some 1) (Some (object_url example_config 1))) 1523836800 false false ≡ created_reply
unfolding front_text reply_on_literals status_text
created_by = refl

pub created_is : front_text (answer_to example_config example_state at.Service Post) 1523836800 false false ≡ created_reply
created_is =
    ap (λ (a : Answer). front_text a 1523836800 false false)
    ((λ i. answer 201 (option_map (λ (o : Object). Document (status_document example_config (object_view 1 o))) (there i))
    (option_map (λ (o : Object). o.tag) (there i)) (option_map (λ (o : Object). object_url example_config 1) (there i)))
    ∙ ap (λ (d : List ℕ). answer 201 (Some (Document d)) (Some 1) (Some (object_url example_config 1))) status_is)
    ∙ created_by

shown_by : front_text (answer 200 (Some (Document upload_text)) None None) 1523836800 false true ≡ upload_reply
unfolding front_text reply_on_literals upload_text
shown_by = refl

pub shown_is : front_text (answer_to example_config example_state (at.Upload 1) Get) 1523836800 false true ≡ upload_reply
shown_is =
    ap (λ (a : Answer). front_text a 1523836800 false true)
    ((λ i. answer 200 (option_map (λ (u : Upload). Document (upload_document example_config (upload_row 1 u) (finmap.keys u.segments))) (staged i)) None None)
    ∙ ap (λ (d : List ℕ). answer 200 (Some (Document d)) None None) upload_is)
    ∙ shown_by

file_answer : answer_to example_config example_state (at.File 1 1) Get ≡ answer 200 (Some (StoredContent (record { object = 1; file = 1 }) (codes "text/plain") (codes "abc"))) (Some 1) None
file_answer = λ i. answer 200 (option_map (file_reply 1 1) (file i)) (option_map (λ (f : File). f.tag) (file i)) None

file_by : (is_head_only : Bool) → front_text (answer 200 (Some (StoredContent (record { object = 1; file = 1 }) (codes "text/plain") (codes "abc"))) (Some 1) None) 1523836800 is_head_only false ≡ file_head
unfolding front_text reply_on_literals
file_by true = refl
file_by false = refl

pub file_front : (is_head_only : Bool) → front_text (answer_to example_config example_state (at.File 1 1) Get) 1523836800 is_head_only false ≡ file_head
file_front is_head_only = ap (λ (a : Answer). front_text a 1523836800 is_head_only false) file_answer ∙ file_by is_head_only

pub file_sent : stored_text (answer_to example_config example_state (at.File 1 1) Get) false ≡ codes "abc"
unfolding stored_text
file_sent = ap (λ (a : Answer). stored_text a false) file_answer

pub file_unsent : stored_text (answer_to example_config example_state (at.File 1 1) Get) true ≡ []
unfolding stored_text
file_unsent = refl

changed_by : front_text (answer 204 None (Some 1) None) 1523836800 false false ≡ changed_reply
unfolding front_text reply_on_literals
changed_by = refl

pub changed_is : front_text (answer_to example_config example_state (at.Metadata 1) Put) 1523836800 false false ≡ changed_reply
changed_is =
    ap (λ (o : Option Object). front_text (answer 204 None (option_map (λ (x : Object). x.metadata_tag) o) None) 1523836800 false false) there
    ∙ changed_by
