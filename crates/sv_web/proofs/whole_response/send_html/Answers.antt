use Rattle.sv_web.proofs.whole_response.send_html.Goals as goal

pub returns-clause-answered : goal.returns-clause-answered
returns-clause-answered c = rw c.as_bytes.ensures.value at c.send.ensures.answered
