use Rattle.sv_realm.proofs.Numbered.{all_numbered, users_of_all}
use Rattle.sv_realm.proofs.realm.Realm.from_users.Goals as goal

pub invariant_of-result : goal.invariant_of-result
invariant_of-result c = all_numbered _ c.args.users.items c.in_ok-accounts_of.ensures

pub returns : goal.returns
returns c = users_of_all _ c.args.users.items c.in_ok-accounts_of.ensures
