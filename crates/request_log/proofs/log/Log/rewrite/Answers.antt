use Rattle.std.proofs.Common.{◌≡◌, ◌∙◌, sym, position, Some, None, refl}
use Rattle.request_log.specs.Entries.{asking, has_id}
use Rattle.request_log.proofs.ChangeLemmas.{changed_place, replaced_so, unknown}
use Rattle.request_log.proofs.log.Log.rewrite.Goals as goal

pub invariant_of-self : goal.invariant_of-self
invariant_of-self c =
    let at : position (has_id c.args.id) c.self.inside.items.items ≡ Some c.in-Some.place = rw c.deref.ensures.value at (sym c.place_of.ensures ∙ c.in-Some.is) in
    rw c.rewrite.ensures (changed_place (asking c.args.request) (record { id = λ e. refl; origin = λ e. refl }) c.args.id c.args.self.now c.self.inside.folded c.self.inside.items.items c.self.inside.numbers.keys c.self.inside.origins.keys c.in-Some.place c.index_mut.result.now c.self.view_is at c.index_mut.ensures.value c.self.invariant).log

pub returns-in-None-clause-entries : goal.returns-in-None-clause-entries
returns-in-None-clause-entries c =
    let at : position (has_id c.args.id) c.self.inside.items.items ≡ None = rw c.deref.ensures.value at (sym c.place_of.ensures ∙ c.in-None.is) in
    (unknown (asking c.args.request) c.args.id c.args.self.now c.self.inside.folded c.self.inside.items.items c.self.view_is at).entries

pub returns-in-None-clause-there : goal.returns-in-None-clause-there
returns-in-None-clause-there c =
    let at : position (has_id c.args.id) c.self.inside.items.items ≡ None = rw c.deref.ensures.value at (sym c.place_of.ensures ∙ c.in-None.is) in
    (unknown (asking c.args.request) c.args.id c.args.self.now c.self.inside.folded c.self.inside.items.items c.self.view_is at).there

pub returns-in-Some-clause-entries : goal.returns-in-Some-clause-entries
returns-in-Some-clause-entries c =
    let at : position (has_id c.args.id) c.self.inside.items.items ≡ Some c.in-Some.place = rw c.deref.ensures.value at (sym c.place_of.ensures ∙ c.in-Some.is) in
    rw c.rewrite.ensures (changed_place (asking c.args.request) (record { id = λ e. refl; origin = λ e. refl }) c.args.id c.args.self.now c.self.inside.folded c.self.inside.items.items c.self.inside.numbers.keys c.self.inside.origins.keys c.in-Some.place c.index_mut.result.now c.self.view_is at c.index_mut.ensures.value c.self.invariant).entries

pub returns-in-Some-clause-there : goal.returns-in-Some-clause-there
returns-in-Some-clause-there c =
    let at : position (has_id c.args.id) c.self.inside.items.items ≡ Some c.in-Some.place = rw c.deref.ensures.value at (sym c.place_of.ensures ∙ c.in-Some.is) in
    (changed_place (asking c.args.request) (record { id = λ e. refl; origin = λ e. refl }) c.args.id c.args.self.now c.self.inside.folded c.self.inside.items.items c.self.inside.numbers.keys c.self.inside.origins.keys c.in-Some.place c.index_mut.result.now c.self.view_is at c.index_mut.ensures.value c.self.invariant).there

pub returns-in-None-clause-replaced : goal.returns-in-None-clause-replaced
returns-in-None-clause-replaced c method path body so =
    returns-in-None-clause-entries c ∙ replaced_so c.args.id c.args.self.now c.self.inside.folded c.self.inside.items.items c.self.inside.numbers.keys c.self.inside.origins.keys c.self.view_is c.self.invariant method path body c.args.request so

pub returns-in-Some-clause-replaced : goal.returns-in-Some-clause-replaced
returns-in-Some-clause-replaced c method path body so =
    returns-in-Some-clause-entries c ∙ replaced_so c.args.id c.args.self.now c.self.inside.folded c.self.inside.items.items c.self.inside.numbers.keys c.self.inside.origins.keys c.self.view_is c.self.invariant method path body c.args.request so
