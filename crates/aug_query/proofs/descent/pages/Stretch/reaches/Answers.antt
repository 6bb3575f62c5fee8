use Rattle.std.proofs.Common.{◌≡◌, ◌+◌, ◌*◌, ◌%◌, ◌^◌, ◌<◌, arith, leb-true, le-leb, ltb-true, lt-ltb}
use Rattle.std.proofs.Math.Nat.{div-lt_iff_lt-mul, mod-eq_of_lt}
use Rattle.std.proofs.lemmas.Nat.{pow_pos}
use Rattle.aug_query.proofs.Nodes.{few_keys}
use Rattle.aug_query.proofs.descent.pages.Stretch.reaches.Goals as goal

pub returns-in-From : goal.returns-in-From
returns-in-From g c =
    let level = c.args.level in let place = c.args.place in let k = c.in-From.k in
    let iff = div-lt_iff_lt-mul {k = 2 ^ level} {x = k} {y = place + 1} (pow_pos level) in
    rw c.in-From.is (λ h. iff.0 (omega (arith, leb-true _ _ h)), λ h. le-leb _ _ (omega (arith, iff.1 h)))

pub returns-in-Below : goal.returns-in-Below
returns-in-Below g c =
    let level = c.args.level in let place = c.args.place in let k = c.in-Below.k in
    let node = g.met.D.Descend.name_stands c.args.tree.now _ _ c.args.node.now c.requires in
    let few : place * 2 ^ level < 4294967296 = omega (arith, few_keys node) in
    let same : place * 2 ^ level % 4294967296 ≡ place * 2 ^ level = mod-eq_of_lt few in
    rw c.in-Below.is (λ h. omega (arith, ltb-true _ _ h, same), λ h. lt-ltb _ _ (omega (arith, h, same)))
