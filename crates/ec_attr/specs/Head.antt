-- What a brick keeps of a record beside its content.
use Rattle.std.proofs.Common.{lit≤}
use Rattle.std.specs.Prelude.{ℕ}
use Rattle.ec_attr.specs.declared.attr.Attr.{Attr}
use Rattle.ec_attr.specs.declared.head.Head.{Head}
use Rattle.ec_attr.specs.declared.kind.Kind.{Kind}
use Rattle.ec_attr.specs.declared.kind.Kind.TheVariants.{File, Dir}

-- the attribute of a new record of a kind
abbrev pub new_attr : Kind → Attr
new_attr File = record { mode = 420; owner = 0; group = 0; in_range = lit≤ tt }
new_attr Dir = record { mode = 493; owner = 0; group = 0; in_range = lit≤ tt }

-- the head with another dirty number, and with another version, of the content
abbrev pub with_dirty : ℕ → Head → Head
with_dirty dirty h = record h { dirty = record h.dirty { content = dirty } }

abbrev pub with_version : ℕ → Head → Head
with_version version h = record h { version = record h.version { content = version } }
