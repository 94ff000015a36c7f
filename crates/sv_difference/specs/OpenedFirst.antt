-- The order of contexts in the text and the JSON of a report (Jakarta Servlet 6.0, sections 12.1 and 13.8).
use Rattle.std.specs.Prelude.{Bool, not, ◌||◌, List, ◌++◌, filter, is_none}
use Rattle.std.specs.List.{list_any}
use Rattle.sv_difference.specs.Differences.{same_kind}
use Rattle.sv_difference.specs.declared.difference.Difference.{Difference}
use Rattle.sv_audit.specs.declared.visitors.DifferenceKind.TheVariants.{Opened}
use Rattle.sv_difference.specs.declared.contexts.ContextDifference.{ContextDifference}

-- Whether only one of the servers has the context. In the other one, another context serves its requests, or none does
-- (section 12.1), so visitors may enter there who did not before.
unfoldable pub is_lone : ContextDifference → Bool
is_lone context = is_none context.before || is_none context.after

abbrev pub has_opened : List Difference → Bool
has_opened differences = list_any (λ difference. same_kind Opened difference.kind) differences

-- Whether something may have been opened in the context.
unfoldable pub may_open : ContextDifference → Bool
may_open context = is_lone context || has_opened context.differences

-- The contexts in which something may have been opened, then the others, each in the order of the report.
abbrev pub opened_first : List ContextDifference → List ContextDifference
opened_first contexts = filter may_open contexts ++ filter (λ context. not (may_open context)) contexts
