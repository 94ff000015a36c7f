use Rattle.std.proofs.Common.{refl}
use Rattle.sv_mapping.proofs.Added.{exact_added, on_ok, prefix_added, root_added, slash_added, starred_added}
use Rattle.sv_mapping.proofs.pattern_index.Index.add.Goals as goal

pub returns-in-Root : goal.returns-in-Root
returns-in-Root c = λ patterns finds place.
    on_ok c.add_exact.result c.add_exact.ensures (λ adds. root_added patterns c.args.pattern.now c.args.self.now _ finds c.requires.pattern c.in-Root.ensures.text (rw place at adds) (λ _. refl) refl)

pub returns-in-Default : goal.returns-in-Default
returns-in-Default c = λ patterns finds place.
    slash_added patterns c.args.pattern.now c.args.self.now _ finds c.requires.pattern c.in-Default.ensures.text refl (λ _. refl) (rw place at c.or-self.ensures)

pub returns-in-Extension : goal.returns-in-Extension
returns-in-Extension c = λ patterns finds place.
    on_ok c.add_extension.result c.add_extension.ensures.extensions (λ extensions.
    starred_added patterns c.args.pattern.now c.args.self.now _ finds c.requires.pattern c.in-Extension.extension.now c.in-Extension.ensures.text c.add_extension.ensures.trie (rw place at extensions) c.add_extension.ensures.default)

pub returns-in-Prefix : goal.returns-in-Prefix
returns-in-Prefix c = λ patterns finds place.
    on_ok c.add_prefix.result c.add_prefix.ensures (λ adds.
    prefix_added patterns c.args.pattern.now c.args.self.now _ finds c.requires.pattern c.in-Prefix.prefix.now c.in-Prefix.ensures.form c.in-Prefix.ensures.text (rw place at adds) (λ _. refl) refl)

pub returns-in-Exact : goal.returns-in-Exact
returns-in-Exact c = λ patterns finds place.
    on_ok c.add_exact-in-Exact.result c.add_exact-in-Exact.ensures (λ adds.
    exact_added patterns c.args.pattern.now c.args.self.now _ finds c.requires.pattern c.in-Exact.path.now c.in-Exact.ensures.form c.in-Exact.ensures.text (rw place at adds) (λ _. refl) refl)
