-- The base of the example is a base.
use Rattle.std.proofs.Common.{◌≡◌, [], ◌∷◌, Some, None, Ok, refl, codes}
use Rattle.std.specs.Fmt.{digits}
use Rattle.percent_encoding.specs.AsciiSet.{should_percent_encode}
use Rattle.percent_encoding.specs.Percent.{percent_decode, percent_encode}
use Rattle.url.specs.declared.host.Host.TheVariants.{Ipv4}
use Rattle.url.specs.Host.{ascii_domain, parse_special_host}
use Rattle.url.specs.Input.{rsplit_once, split_once, strip_tabs_and_new_lines, trim_c0_control_and_space}
use Rattle.url.specs.Ipv4.{ends_in_a_number, parse_number}
use Rattle.url.specs.Ipv4 as ipv4
use Rattle.url.specs.Parser.{after_double_slash, host_len, parse_authority, parse_body, parse_parts, parse_port, parse_url, split_scheme}
use Rattle.url.specs.Parts.{Parts}
use Rattle.url.specs.Path.{dot_count, parse_path_start, parse_segments, push_segment}
use Rattle.url.specs.Scheme.{default_port, scheme_len, scheme_type}
use Rattle.dep_types.specs.Config.{IsChecked}
use Rattle.dep_docs_out.specs.ExampleDocuments.{example_config}
use Rattle.dep_configuration.proofs.ExampleRead.{example_members, example-config}
use Rattle.dep_configuration.proofs.ValuesGiven.{limits-of}
use Rattle.json.specs.Json.{object}

abbrev example_url : Parts
example_url = record {
  scheme = codes "http";
  username = [];
  password = [];
  host = Some (Ipv4 record { octets = 127 ∷ 0 ∷ 0 ∷ 1 ∷ [] });
  port = Some 8080;
  path = codes "/";
  query = None;
  fragment = None;
}

base-read : parse_url None (codes "http://127.0.0.1:8080") ≡ Ok example_url
unfolding should_percent_encode percent_decode percent_encode ascii_domain parse_special_host rsplit_once split_once strip_tabs_and_new_lines trim_c0_control_and_space ends_in_a_number parse_number ipv4.parse_parts after_double_slash host_len parse_authority parse_body parse_parts parse_port parse_url split_scheme dot_count parse_path_start parse_segments push_segment default_port scheme_len scheme_type
base-read = refl

pub example-checked : IsChecked example_config
unfolding digits
example-checked = record {
  base = record { url = example_url; reads = base-read; scheme = refl; spelled = refl };
  limits = limits-of example_config (object example_members) example-config;
}
