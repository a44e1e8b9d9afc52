use Rattle.std.proofs.Common.{◌∙◌, ap, sym, subst}
use Rattle.dep_hub.specs.Representing.{GoesOnFrom}
use Rattle.dep_commands.specs.declared.reserved_archive.ReservedArchive.{ReservedArchive}
use Rattle.dep_application.proofs.reserved_hub.hub_over.Goals as goal

pub returns-in-Ok : goal.returns-in-Ok
returns-in-Ok g c =
    let made = c.in-Ok.ensures in
    record {
      configured = made.config;
      checked = made.checked;
      kept = ap (λ (a : ReservedArchive _ _). a.archive) made.kept ∙ c.new.ensures.archive;
      again = subst (λ (a : ReservedArchive _ _). GoesOnFrom (λ (its : ReservedArchive _ _). g.A.Archive.condition its.archive) c.args.config a c.in-Ok.hub) (sym made.kept) made.again;
      refused = tt;
      handed = tt;
    }

pub returns-in-Err : goal.returns-in-Err
returns-in-Err g c =
    let made = c.in-Err.ensures in
    record {
      configured = tt;
      checked = tt;
      kept = tt;
      again = tt;
      refused = made.refused;
      handed = c.into_archive.ensures ∙ ap (λ (a : ReservedArchive _ _). a.archive) made.store ∙ c.new.ensures.archive;
    }
