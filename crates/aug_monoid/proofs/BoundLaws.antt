-- The laws that a type under the bound `Monoid` keeps, as one record over its plain parts.
use seplogic.Ra.Ura.{Ura}
use mir.Syntax.{Dict}
use types.Logic.{Logic}
use prog.Model.{Model}
use contract.Running.{Running}
use denote.RattleType.{RattleType}
use Rattle.std.specs.declared.clone.Clone as clone
use Rattle.std.specs.declared.cmp.Eq as eq
use Rattle.std.specs.declared.cmp.PartialEq as partial_eq
use Rattle.aug_monoid.specs.inside.Laws.{IsMonoid}
use Rattle.aug_monoid.specs.declared.monoid.Monoid.{Ghosts}
use Rattle.aug_monoid.specs.contracts.monoid.Monoid.TheBound.{Met}

-- in an answer: `laws_of g.met.M.Monoid`, where the type parameter is `M`
pub laws_of : {M : Type 1} {𝓤 : Ura M} {𝓛 : Logic 𝓤} {𝓜 : Model 𝓤 𝓛.H} {𝓡 : Running 𝓤 𝓛.H 𝓜} {T : RattleType} {m : Ghosts T.Denot} {methods : Dict}
    {c : clone.Ghosts T.Denot} {clone_methods : Dict} {e : eq.Ghosts T.Denot} {eq_methods : Dict} {p : partial_eq.Ghosts T.Denot} {partial_eq_methods : Dict}
    → Met 𝓛 𝓜 𝓡 𝓡.env T m methods c clone_methods e eq_methods p partial_eq_methods
    → IsMonoid m.parts
laws_of met = record {
  unit_is_proper = met.unit_is_proper;
  key_is_proper = met.key_is_proper;
  join_is_proper = met.join_is_proper;
  of_word_is_proper = met.of_word_is_proper;
  associates = met.associates;
  unit_left = met.unit_left;
  unit_right = met.unit_right;
  word_fits = met.word_fits;
  round_trip = met.round_trip;
}
