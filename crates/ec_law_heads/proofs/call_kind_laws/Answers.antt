use Rattle.std.proofs.Common.{refl, List}
use Rattle.ec_calls.specs.contracts.any.AnyCallConduct.TheImpl.{ghosts as impl}
use Rattle.ec_calls.specs.declared.any.AnyCall.{AnyCall}
use Rattle.ec_calls.specs.declared.any.AnyCall.TheVariants.{GetAttr, Lookup, Make, Read, Readdir, SetAttr, Stat, Truncate, Unlink, Write}
use Rattle.ec_conduct.specs.Given.{Given}
use Rattle.ec_conduct.specs.Own.{Own}
use Rattle.ec_txn.specs.declared.ctx.Ctx.{Ctx}
use Rattle.ec_law_parts.specs.Names.{EachSends}
use Rattle.ec_law_heads.specs.Making.{IsOfKind, kind_made}
use Rattle.ec_law_heads.proofs.Calling.{made_kinds, unmade}
use Rattle.ec_law_heads.proofs.call_kind_laws.Goals as goal

kinds_of : (x : Ctx) (given : Given) (call : AnyCall) (es : List Own) → impl.stands x given call es → EachSends (IsOfKind (kind_made given.op)) es
kinds_of x given (Stat own) es s = unmade given es (kind_made given.op) _ s.fit s.keeps (λ g. refl)
kinds_of x given (Lookup own) es s = unmade given es (kind_made given.op) _ s.fit s.keeps (λ g. refl)
kinds_of x given (GetAttr own) es s = unmade given es (kind_made given.op) _ s.fit s.keeps (λ g. refl)
kinds_of x given (SetAttr own) es s = unmade given es (kind_made given.op) _ s.fit s.keeps (λ g. refl)
kinds_of x given (Read own) es s = unmade given es (kind_made given.op) _ s.fit s.keeps (λ g. refl)
kinds_of x given (Write own) es s = unmade given es (kind_made given.op) _ s.fit s.keeps (λ g. refl)
kinds_of x given (Make own) es s = made_kinds given own.plan.kind own.plan.parent.0 own.plan.name s.fit es own.stage s.by_table
kinds_of x given (Readdir own) es s = unmade given es (kind_made given.op) _ s.fit s.keeps (λ g. refl)
kinds_of x given (Unlink own) es s = unmade given es (kind_made given.op) _ s.fit s.keeps (λ g. refl)
kinds_of x given (Truncate own) es s = unmade given es (kind_made given.op) _ s.fit s.keeps (λ g. refl)

pub returns : goal.returns
returns c = record { kinds = kinds_of }
