use Rattle.session_rows.proofs.memory.over.Goals as goal

pub returns-clause-session : goal.returns-clause-session
returns-clause-session c = c.over_input.ensures.session c.args.bytes.now c.new-input.ensures.bytes
