use Rattle.std.proofs.Common.{List, length, refl, ap, sym, ◌∙◌}
use Rattle.dep_row_maps.proofs.Changing.{changes_put}
use Rattle.dep_decisions.specs.Decisions.{numbers_for}
use Rattle.dep_decisions.specs.declared.decision.NewFile.{NewFile}
use Rattle.dep_decisions.specs.declared.decision.Decision.{Decision}
use Rattle.dep_decisions.specs.declared.decision.Decision.TheVariants.{SetFiles}
use Rattle.dep_requests.proofs.Carried.{as_shown, carried_as, room_of_files}
use Rattle.dep_requests.proofs.carrying.change_maps.Goals as goal

pub invariant_of-create : goal.invariant_of-create
invariant_of-create g c = record { room = room_of_files c.args.change.now.view.now.next c.args.decision.now _ (ap (λ (d : Decision). (numbers_for d).file) c.in-Create.is) c.requires }

pub invariant_of-append : goal.invariant_of-append
invariant_of-append g c = record { room = room_of_files c.args.change.now.view.now.next c.args.decision.now _ (ap (λ (d : Decision). (numbers_for d).file) c.in-Append.is) c.requires }

pub invariant_of-replace : goal.invariant_of-replace
invariant_of-replace g c = record { room = room_of_files c.args.change.now.view.now.next c.args.decision.now _ (ap (λ (d : Decision). (numbers_for d).file) c.in-Replace.is) c.requires }

pub invariant_of-set_files : goal.invariant_of-set_files
invariant_of-set_files g c = record { room = room_of_files c.args.change.now.view.now.next c.args.decision.now _ (ap (λ (d : Decision). (numbers_for d).file) c.in-SetFiles.is ∙ ap length (sym c.as_slice-files.ensures)) c.requires }

pub returns-in-Create : goal.returns-in-Create
returns-in-Create g c = record {
  map = carried_as c.args.change.now c.in-Create.is c.create.ensures.map;
  untouched = λ show. absurd (as_shown c.in-Create.is show);
}

pub returns-in-Append : goal.returns-in-Append
returns-in-Append g c = record {
  map = carried_as c.args.change.now c.in-Append.is (c.append.ensures.map c.in-Append.object);
  untouched = λ show. absurd (as_shown c.in-Append.is show);
}

pub returns-in-Replace : goal.returns-in-Replace
returns-in-Replace g c = record {
  map = carried_as c.args.change.now c.in-Replace.is (c.replace.ensures.map c.in-Replace.object);
  untouched = λ show. absurd (as_shown c.in-Replace.is show);
}

pub returns-in-Complete : goal.returns-in-Complete
returns-in-Complete g c = record {
  map = carried_as c.args.change.now c.in-Complete.is (c.complete.ensures.map c.in-Complete.object);
  untouched = λ show. absurd (as_shown c.in-Complete.is show);
}

pub returns-in-SetMetadata : goal.returns-in-SetMetadata
returns-in-SetMetadata g c = record {
  map = carried_as c.args.change.now c.in-SetMetadata.is (c.set_texts.ensures.map c.in-SetMetadata.object);
  untouched = λ show. absurd (as_shown c.in-SetMetadata.is show);
}

pub returns-in-SetFiles : goal.returns-in-SetFiles
returns-in-SetFiles g c = record {
  map =
      carried_as c.args.change.now (c.in-SetFiles.is ∙ ap (λ (new : List NewFile). SetFiles c.in-SetFiles.object new) (sym c.as_slice-files.ensures))
      (c.set_files.ensures.map c.in-SetFiles.object);
  untouched = λ show. absurd (as_shown c.in-SetFiles.is show);
}

pub returns-in-SetFile : goal.returns-in-SetFile
returns-in-SetFile g c = record {
  map = carried_as c.args.change.now c.in-SetFile.is (c.set_file.ensures.map c.in-SetFile.object);
  untouched = λ show. absurd (as_shown c.in-SetFile.is show);
}

pub returns-in-DropFile : goal.returns-in-DropFile
returns-in-DropFile g c = record {
  map = carried_as c.args.change.now c.in-DropFile.is (c.drop_file.ensures.map c.in-DropFile.object);
  untouched = λ show. absurd (as_shown c.in-DropFile.is show);
}

pub returns-in-DropObject : goal.returns-in-DropObject
returns-in-DropObject g c = record {
  map =
      carried_as c.args.change.now c.in-DropObject.is
      (record { done = λ clean inside ours s are reported. c.drop_object.ensures.map.done reported.1.0 clean inside ours s are reported.1.1.1; keeps = c.drop_object.ensures.map.keeps });
  untouched = λ show. absurd (as_shown c.in-DropObject.is show);
}

pub returns-in-Open : goal.returns-in-Open
returns-in-Open g c = record {
  map = carried_as c.args.change.now c.in-Open.is c.open.ensures.map;
  untouched = λ show. absurd (as_shown c.in-Open.is show);
}

pub returns-in-Receive : goal.returns-in-Receive
returns-in-Receive g c = record {
  map = carried_as c.args.change.now c.in-Receive.is (c.receive.ensures.map c.in-Receive.upload);
  untouched = λ show. absurd (as_shown c.in-Receive.is show);
}

pub returns-in-DropUpload : goal.returns-in-DropUpload
returns-in-DropUpload g c = record {
  map =
      carried_as c.args.change.now c.in-DropUpload.is
      (record { done = λ clean inside ours s are reported. c.drop_upload.ensures.does.map clean inside ours s are; keeps = c.drop_upload.ensures.does.keeps });
  untouched = λ show. absurd (as_shown c.in-DropUpload.is show);
}

pub returns-in-Show : goal.returns-in-Show
returns-in-Show g c = record {
  map = carried_as c.args.change.now c.in-Show.is
      (record { done = λ clean inside ours s are reported. are; keeps = changes_put g.T.Statements.lenders g.T.Statements.state c.args.tx.now _ });
  untouched = λ show. (refl, refl {a = c.args.tx.now});
}
