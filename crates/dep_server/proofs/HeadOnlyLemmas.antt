-- A HEAD is answered as a GET, without the body.
use Rattle.std.proofs.Common.{◌≡◌, ℕ, Bool, true, false, ◌||◌, if◌then◌else◌, List, [], ◌∷◌, ◌++◌, length, map, Option, Some, None, codes, refl, sym, ap, subst, ◌∙◌, append_assoc, is_some, IsTrue, find, bytes_eq}
use Rattle.std.specs.Option.{option_map, option_map_or, option_and_then}
use Rattle.std.specs.List.{list_any}
use Rattle.std.specs.FinMap as finmap
use Rattle.std.proofs.lemmas.List.{append-nil}
use Rattle.dep_types.specs.Maps.{first_of}
use Rattle.dep_types.specs.Methods.{is_safe}
use Rattle.dep_types.specs.Numbers.{room_for}
use Rattle.dep_types.specs.State.{State, Object, File, Upload, file_at, tick}
use Rattle.dep_types.specs.Rows.{object_view, upload_row}
use Rattle.dep_types.specs.BagPaths.{bag_paths, tag_paths, payload_path}
use Rattle.dep_types.specs.declared.config.Config.{Config}
use Rattle.dep_types.specs.declared.refusal.Refusal.{Refusal}
use Rattle.dep_types.specs.declared.refusal.Refusal.TheVariants as why
use Rattle.dep_types.specs.declared.target.Resource.{Resource}
use Rattle.dep_types.specs.declared.target.Resource.TheVariants as at
use Rattle.dep_types.specs.declared.target.Method.TheVariants.{Get, Head}
use Rattle.dep_reply.specs.Head.{head_text}
use Rattle.dep_docs_out.specs.Documents.{service_document, error_document, status_document, metadata_document, upload_document}
use Rattle.dep_bag.specs.Bag.{list_text}
use Rattle.dep_decisions.specs.Decisions.{decision_with}
use Rattle.dep_decisions.specs.LookUps.{in_state}
use Rattle.dep_decisions.specs.Rules.{access_refusal, behalf_rule, content_refusal, presence_refusal, presence_rule, refusal_by, room_rule}
use Rattle.dep_decisions.specs.declared.operation.Operation.{Operation}
use Rattle.dep_decisions.proofs.FoundInMaps.{unless-none}
use Rattle.dep_decisions.proofs.ReadAlone.{reads_keep}
use Rattle.dep_answers.specs.Answers.{Answer, ReplyContent, Document, PlainText, StoredContent, bytes_of, document_of, file_reply, stored_of, head_of}
use Rattle.dep_answers.specs.Bags.{BagEntry, bag_entries, payload_shown, shown_in_bag}
use Rattle.dep_answers.specs.Replies.{front_text, stored_text, content_at, shown_answer, refused_answer}
use Rattle.dep_answers.specs.Steps.{Stepped, answered_step, refused_step, accepted_answer, accepted_step, is_head, step_by, operation_step}
use Rattle.dep_router.specs.Targets.{target, to_resource, segments, resource_of, allow_text}
use Rattle.dep_message.specs.Heads.{closes}
use Rattle.dep_message.specs.Stream.{Request}
use Rattle.dep_message.specs.declared.message.Message.{Message}
use Rattle.dep_exchange.specs.Machine.{operation_of, routed_step, step}
use Rattle.dep_server.specs.HeadOnly.{request_by, IsWithoutBody}

-- the document and the content of a file are all that is shown
all_of : (content : ReplyContent) → document_of (Some content) ++ stored_of (Some content) ≡ bytes_of content
all_of (Document bytes) = append-nil bytes
all_of (PlainText bytes) = append-nil bytes
all_of (StoredContent id media bytes) = refl

-- what one reply says, with its body and without
without_body : (s : State) (a : Answer) (clock : ℕ) (ends : Bool) (content : ReplyContent) → a.content ≡ Some content
    → IsWithoutBody (answered_step s a clock false ends) (answered_step s a clock true ends)
unfolding front_text stored_text
without_body s a clock ends content e = record {
  state = refl;
  closes = refl;
  head = head_of a clock ends;
  body = bytes_of content;
  reported = ap (option_map (λ (c : ReplyContent). length (bytes_of c))) e;
  with_body =
      append_assoc (head_text (head_of a clock ends)) (document_of a.content) (stored_of a.content)
      ∙ ap (λ (bytes : List ℕ). head_text (head_of a clock ends) ++ bytes) ((λ i. document_of (e i) ++ stored_of (e i)) ∙ all_of content);
  head_alone = append-nil (head_text (head_of a clock ends) ++ []) ∙ append-nil (head_text (head_of a clock ends));
}

-- ---- what is there is shown

-- what is shown of something, where it is there
there : {X : Type 0} (f : X → ReplyContent) (o : Option X) → is_some o ≡ true → (content : ReplyContent) × (option_map f o ≡ Some content)
there f None e = cc
there f (Some x) e = (f x, refl)

upload_there : (b c : Bool) → (if b then None else if c then Some why.SegmentedUploadTimedOut else Some why.NotFound) ≡ None → b ≡ true
upload_there true c e = refl
upload_there false true e = cc
upload_there false false e = cc

found_by : (b : Bool) (p : BagEntry) (rest : Option BagEntry) → (b ≡ false → (content : ReplyContent) × (option_map (λ (p : BagEntry). p.1) rest ≡ Some content))
    → (content : ReplyContent) × (option_map (λ (p : BagEntry). p.1) (if b then Some p else rest) ≡ Some content)
found_by true p rest f = (p.1, refl)
found_by false p rest f = f refl

behind : (b c : Bool) → (b || c) ≡ true → b ≡ false → c ≡ true
behind true c e f = cc
behind false c e f = e

found : (path : List ℕ) (them : List BagEntry) → list_any (bytes_eq path) (map (λ (p : BagEntry). p.0) them) ≡ true
    → (content : ReplyContent) × (option_map (λ (p : BagEntry). p.1) (find (λ (p : BagEntry). bytes_eq path p.0) them) ≡ Some content)
found path [] e = cc
found path (p ∷ them) e =
    found_by (bytes_eq path p.0) p (find (λ (q : BagEntry). bytes_eq path q.0) them)
    (λ f. found path them (behind (bytes_eq path p.0) (list_any (bytes_eq path) (map (λ (q : BagEntry). q.0) them)) e f))

payload_at : (n : ℕ) (es : List (ℕ × File)) → map (λ (p : BagEntry). p.0) (map (payload_shown n) es) ≡ map (λ (e : ℕ × File). payload_path e.0 e.1.name) es
payload_at n [] = refl
payload_at n (e ∷ es) = ap (λ l. payload_path e.0 e.1.name ∷ l) (payload_at n es)

entries_at : (n : ℕ) (o : Object) → map (λ (p : BagEntry). p.0) (bag_entries n o) ≡ bag_paths o
entries_at n o = ap (λ l. tag_paths ++ l) (payload_at n (finmap.entries o.files))

in_bag : (n : ℕ) (path : List ℕ) (o : Option Object) → option_map_or (λ (x : Object). list_any (bytes_eq path) (bag_paths x)) o false ≡ true
    → (content : ReplyContent) × (option_and_then (λ (x : Object). shown_in_bag n x path) o ≡ Some content)
in_bag n path None e = cc
in_bag n path (Some o) e = found path (bag_entries n o) (ap (λ l. list_any (bytes_eq path) l) (entries_at n o) ∙ e)

-- a resource that has a GET
abbrev is_shown : Resource → Bool
is_shown (at.FileSet n) = false
is_shown at.Staging = false
is_shown resource = true

shows : (config : Config) (s : State) (resource : Resource) → is_shown resource ≡ true → presence_refusal (in_state s) resource ≡ None
    → (content : ReplyContent) × (content_at config s resource ≡ Some content)
shows config s at.Service h e = (Document (service_document config), refl)
shows config s (at.Object n) h e = there (λ (o : Object). Document (status_document config (object_view n o))) (finmap.get s.objects n) (unless-none _ why.NotFound e)
shows config s (at.Metadata n) h e = there (λ (o : Object). Document (metadata_document config n o.metadata)) (finmap.get s.objects n) (unless-none _ why.NotFound e)
shows config s (at.File n f) h e = there (file_reply n f) (file_at s n f) (unless-none _ why.NotFound e)
shows config s (at.Upload u) h e =
    there (λ (upload : Upload). Document (upload_document config (upload_row u upload) (finmap.keys upload.segments))) (finmap.get s.uploads u) (upload_there _ _ e)
shows config s (at.BagList n) h e = there (λ (o : Object). PlainText (list_text (bag_paths o))) (finmap.get s.objects n) (unless-none _ why.NotFound e)
shows config s (at.BagFile n path) h e = in_bag n path (finmap.get s.objects n) (unless-none _ why.NotFound e)
shows config s (at.FileSet n) h e = cc
shows config s at.Staging h e = cc

-- of two rules the second was passed, where the others don't apply
second_passed : (a b : Option Refusal) → first_of (first_of (a ∷ b ∷ None ∷ []) ∷ None ∷ None ∷ []) ≡ None → b ≡ None
second_passed None None e = refl
second_passed None (Some r) e = cc
second_passed (Some r) b e = cc

module _ (config : Config) (s : State) (m : Message) where
  abbrev get : Message
  get = request_by (codes "GET") m

  abbrev head : Message
  head = request_by (codes "HEAD") m

  abbrev by_get : Resource → Operation
  by_get resource = operation_of get (record { resource = resource; method = Get })

  abbrev by_head : Resource → Operation
  by_head resource = operation_of head (record { resource = resource; method = Head })

  turned : (r : Refusal) (allow : Option (List ℕ)) → IsWithoutBody (refused_step s r allow false (closes m.head)) (refused_step s r allow true (closes m.head))
  turned r allow = without_body s (refused_answer s.clock r allow) s.clock (closes m.head) (Document (error_document r s.clock)) refl

  -- both are read by these rules
  abbrev rules : Resource → Option Refusal
  rules resource = first_of (first_of (behalf_rule config (by_get resource) ∷ presence_refusal (in_state s) resource ∷ None ∷ []) ∷ None ∷ None ∷ [])

  -- the accepted ones, at a state that they leave
  shown : (resource : Resource) (content : ReplyContent) → content_at config s resource ≡ Some content
      → IsWithoutBody (answered_step s (shown_answer config s resource) s.clock false (closes m.head)) (answered_step s (shown_answer config s resource) s.clock true (closes m.head))
  shown resource content e = without_body s (shown_answer config s resource) s.clock (closes m.head) content e

  -- what is accepted leaves the state
  kept : (op : Operation) → IsTrue (is_safe op.target.method) → accepted_answer config s op ≡ shown_answer config s op.target.resource
      → step_by config s op None ≡ answered_step s (shown_answer config s op.target.resource) s.clock (is_head op.target.method) op.closes
  kept op safe f =
      ap (accepted_step config s op) (reads_keep config s op safe) ∙ ap (λ (a : Answer). answered_step s a s.clock (is_head op.target.method) op.closes) f

  by_rules : (resource : Resource) → is_shown resource ≡ true
      → accepted_answer config s (by_get resource) ≡ shown_answer config s resource → accepted_answer config s (by_head resource) ≡ shown_answer config s resource
      → (o : Option Refusal) → rules resource ≡ o → IsWithoutBody (step_by config s (by_get resource) o) (step_by config s (by_head resource) o)
  unfolding closes
  by_rules resource h f g (Some r) e = turned r None
  by_rules resource h f g None e =
      let c = shows config s resource h (second_passed _ _ e) in
      subst (λ (a : Stepped). IsWithoutBody a (step_by config s (by_head resource) None)) (sym (kept (by_get resource) refl f))
      (subst (λ (b : Stepped). IsWithoutBody (answered_step s (shown_answer config s resource) s.clock false (closes m.head)) b) (sym (kept (by_head resource) refl g))
      (shown resource c.0 c.1))

  by_resource : (r : Option Resource) → IsWithoutBody (routed_step config s get (to_resource (codes "GET") r)) (routed_step config s head (to_resource (codes "HEAD") r))
  unfolding operation_step refusal_by access_refusal behalf_rule presence_rule content_refusal room_rule room_for decision_with accepted_answer closes
  by_resource None = turned why.NotFound None
  by_resource (Some at.Service) = by_rules at.Service refl refl refl (rules at.Service) refl
  by_resource (Some (at.Object n)) = by_rules (at.Object n) refl refl refl (rules (at.Object n)) refl
  by_resource (Some (at.Metadata n)) = by_rules (at.Metadata n) refl refl refl (rules (at.Metadata n)) refl
  by_resource (Some (at.FileSet n)) = turned why.MethodNotAllowed (Some (allow_text (at.FileSet n)))
  by_resource (Some (at.File n f)) = by_rules (at.File n f) refl refl refl (rules (at.File n f)) refl
  by_resource (Some at.Staging) = turned why.MethodNotAllowed (Some (allow_text at.Staging))
  by_resource (Some (at.Upload n)) = by_rules (at.Upload n) refl refl refl (rules (at.Upload n)) refl
  by_resource (Some (at.BagList n)) = by_rules (at.BagList n) refl refl refl (rules (at.BagList n)) refl
  by_resource (Some (at.BagFile n path)) = by_rules (at.BagFile n path) refl refl refl (rules (at.BagFile n path)) refl

pub heads_have_no_body : (config : Config) (s : State) (m : Message) (moment : ℕ)
    → IsWithoutBody (step config s (Request (request_by (codes "GET") m)) moment) (step config s (Request (request_by (codes "HEAD") m)) moment)
unfolding step target
heads_have_no_body config s m moment =
    by_resource config (tick config s moment) m (resource_of (segments m.head.path))
