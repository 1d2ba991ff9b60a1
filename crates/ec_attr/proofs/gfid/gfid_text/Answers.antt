use Rattle.ec_attr.proofs.gfid.gfid_text.Goals as goal

pub returns : goal.returns
returns c = rw (← c.from_u128-id.ensures, ← c.hyphenated.ensures, ← c.encode_lower.ensures.text) c.from_str.ensures.ok
