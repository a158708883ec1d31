use Rattle.writer.proofs.line.put_value.Goals as goal

pub returns-in-Some-clause-text : goal.returns-in-Some-clause-text
returns-in-Some-clause-text c = λ p w v e f. rw (e, c.in-Some.is) (c.put_hex.ensures.text p w f)

pub returns-in-None-clause-text : goal.returns-in-None-clause-text
returns-in-None-clause-text c = λ p w v e f. rw (e, c.in-None.is) (c.put.ensures.text p w f)
