use Rattle.sv_explanation.proofs.OutcomeLemmas.{login_posts}
use Rattle.sv_explanation.proofs.laws.login_posts_are_explained.Goals as goal

pub returns : goal.returns
returns c context method canon content_type body = login_posts context method canon
