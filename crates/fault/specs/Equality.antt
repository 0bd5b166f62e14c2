-- Comparing number and place is an equivalence, as `==` has to be. Assumes nothing.
use Rattle.std.specs.Cmp.{IsEquivalence, IsPartialEquivalence, partial_equiv_from_equiv, and_equiv, on_equiv, nat_eq_equiv}
use Rattle.fault.specs.Faults.{fault_number, fault_place, same_fault}

pub same_fault_equivalence : IsEquivalence same_fault
same_fault_equivalence = and_equiv (on_equiv fault_number nat_eq_equiv) (on_equiv fault_place nat_eq_equiv)

pub same_fault_partial_equivalence : IsPartialEquivalence same_fault
same_fault_partial_equivalence = partial_equiv_from_equiv same_fault_equivalence
