use Rattle.dep_configuration.proofs.configuration.config_in.Goals as goal

pub returns : goal.returns
returns c = record {
  base = c.in_ok-base.ensures;
  title = c.in_ok-title.ensures;
  abstract_text = c.in_ok-abstract_text.ensures;
  depositor = c.in_ok-depositor.ensures;
  on_behalf_of = c.flag.ensures;
  require_if_match = c.flag-2.ensures;
  upload = c.number.ensures;
  assembled = c.number-2.ensures;
  segments = c.number-3.ensures;
  idle = c.number-4.ensures;
}
