-- Trusted: What a step tells: the contacts that began and ended, the bodies that fell asleep and woke.
use Rattle.std.specs.Prelude.{List, []}
use Rattle.body_handles.specs.declared.handle.Handle.{Handle}
use Rattle.contacts_base.specs.declared.key.ContactKey.{ContactKey}

pub record EventLists : Type 0 where
  pub begin : List ContactKey
  pub end : List ContactKey
  pub slept : List Handle
  pub woke : List Handle

abbrev pub no_events : EventLists
no_events = record { begin = []; end = []; slept = []; woke = [] }
