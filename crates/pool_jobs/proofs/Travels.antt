-- What a worker is built of goes to another thread, and what a worker gives back comes from one.
use denote.RattleType.{RattleType}
use denote.Ref.{NamedLft}
use denote.Struct.Declared.{fields, shape}
use denote.Param.Send.{IsSend, IsSync, AllSend, sendable, struct_send, view_send}
use Rattle.std.proofs.Crossing.{crosses}
use Rattle.batch_inbox.specs.declared.mail.Mailbox as Mailbox
use Rattle.batch_inbox.specs.declared.mail.Receiver as Receiver
use Rattle.batch_inbox.specs.declared.mail.Sender as Sender
use Rattle.pool_fabric.specs.declared.naming.Naming as Naming
use Rattle.pool_fabric.proofs.Travels.{fabric_sync, held_send, send_fields}
use Rattle.pool_jobs.specs.contracts.allocator.Allocator as Allocator
use Rattle.pool_jobs.specs.contracts.allocator.Allocator.TheInside as InAllocator
use Rattle.pool_jobs.specs.contracts.entrance.Entrance as Entrance
use Rattle.pool_jobs.specs.contracts.workloads.worker.WorkerBuilder as WorkerBuilder
use Rattle.pool_jobs.specs.contracts.counting_heap.CountingHeap as CountingHeap
use Rattle.pool_jobs.specs.contracts.counting_heap.WorkerResult as WorkerResult

-- it crosses where the inboxes and the gate are shared, and its seats and its random source cross
module _ (a r : NamedLft) (M T S G J N : RattleType) (m : Mailbox.Ghosts M.Denot) (t : Receiver.Ghosts T.Denot) (s : Sender.Ghosts S.Denot) (j : Naming.Ghosts J.Denot)
    (i : IsSync M) (z : IsSync G) (x : IsSend T) (y : IsSend S) (n : IsSend N) where
  in_entrance : AllSend (fields (Entrance.the_type a r M T S G J m t s j))
  in_entrance = (
    search (sendable, crosses, fabric_sync r M T S J m t s j i x y) depth 40 fits 6000,
    (search (sendable, crosses, z) depth 40 fits 6000, (search (sendable, crosses) depth 40 fits 6000, (search (sendable, crosses) depth 40 fits 6000, tt))),
  )

  in_builder : AllSend (fields (WorkerBuilder.the_type a r M T S G J N m t s j))
  in_builder = (
    struct_send (shape (Entrance.the_type a r M T S G J m t s j)) in_entrance,
    (
      search (sendable, crosses, held_send r T S J t s j x y) depth 40 fits 6000,
      (n, (search (sendable, crosses) depth 40 fits 6000, (search (sendable, crosses) depth 40 fits 6000, tt))),
    ),
  )

  pub builder_send : IsSend (WorkerBuilder.the_row a r M T S G J N m t s j)
  builder_send = send_fields (WorkerBuilder.the_type a r M T S G J N m t s j) in_builder

-- what a worker gives back crosses where its seats do
module _ (r : NamedLft) (T S J : RattleType) (t : Receiver.Ghosts T.Denot) (s : Sender.Ghosts S.Denot) (j : Naming.Ghosts J.Denot) (x : IsSend T) (y : IsSend S) where
  in_result : AllSend (fields (WorkerResult.the_type r T S J t s j))
  in_result = (search (sendable, crosses, held_send r T S J t s j x y) depth 40 fits 6000, (search (sendable, crosses) depth 40 fits 6000, tt))

  pub result_send : IsSend (WorkerResult.the_row r T S J t s j)
  result_send = send_fields (WorkerResult.the_type r T S J t s j) in_result

-- a worker with its allocator crosses where the inboxes and the gate are shared, and its seats cross
module _ (a r : NamedLft) (M T S G J : RattleType) (m : Mailbox.Ghosts M.Denot) (t : Receiver.Ghosts T.Denot) (s : Sender.Ghosts S.Denot) (j : Naming.Ghosts J.Denot)
    (i : IsSync M) (z : IsSync G) (x : IsSend T) (y : IsSend S) where
  in_allocator : AllSend (fields (InAllocator.the_type a r M T S G J m t s j))
  in_allocator = (
    search (sendable, crosses, fabric_sync r M T S J m t s j i x y) depth 40 fits 6000,
    (
      search (sendable, crosses, z) depth 40 fits 6000,
      (
        search (sendable, crosses) depth 40 fits 6000,
        (
          search (sendable, crosses) depth 40 fits 6000,
          (
            search (sendable, crosses) depth 40 fits 6000,
            (search (sendable, crosses) depth 40 fits 6000, (search (sendable, crosses) depth 40 fits 6000, (held_send r T S J t s j x y, tt))),
          ),
        ),
      ),
    ),
  )

  allocator_send : IsSend (Allocator.the_row a r M T S G J m t s j)
  allocator_send = view_send _ _ _ _ _ (send_fields (InAllocator.the_type a r M T S G J m t s j) in_allocator)

  in_heap : AllSend (fields (CountingHeap.the_type a r M T S G J m t s j))
  in_heap = (allocator_send, (search (sendable, crosses) depth 40 fits 6000, tt))

  pub heap_send : IsSend (CountingHeap.the_row a r M T S G J m t s j)
  heap_send = send_fields (CountingHeap.the_type a r M T S G J m t s j) in_heap
