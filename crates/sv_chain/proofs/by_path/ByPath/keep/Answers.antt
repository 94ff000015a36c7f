use Rattle.std.proofs.Common.{Some, None, ◌∙◌, ap, sym, if◌then◌else◌}
use Rattle.std.proofs.lemmas.Map.Text.{btree_map_updates_text}
use Rattle.std.specs.BTreeMap.{get_by_text}
use Rattle.std.specs.Option.{option_and_then}
use Rattle.std.specs.Str.{bytes_eq}
use Rattle.std.specs.String.{string_bytes}
use Rattle.sv_chain.proofs.Keeping.{through}
use Rattle.sv_chain.specs.declared.by_path.KeptChain.{KeptChain}
use Rattle.sv_chain.proofs.by_path.ByPath.keep.Goals as goal

pub returns-clause-kept : goal.returns-clause-kept
returns-clause-kept c = λ other name.
    let test : KeptChain → _ = λ one. if bytes_eq one.servlet name then Some one.chain else None in
    let updated = btree_map_updates_text (string_bytes c.in_ok-key.key) c.args.self.now.chains c.insert.new.self _ c.in_ok-insert.ensures.updates other in
    rw (sym c.in_ok-key.ensures.ok, sym c.in_ok-servlet.ensures) (ap (option_and_then test) updated ∙ through test (bytes_eq (string_bytes c.in_ok-key.key) other) (record { servlet = c.in_ok-servlet.servlet; chain = c.args.chain }) (get_by_text c.args.self.now.chains other))
