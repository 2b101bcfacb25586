-- The types and the words of lower crates that the laws are said in, under one name for all files.
pub use Rattle.contact.specs.declared.version.Version.{Version}
pub use Rattle.contact.specs.declared.part.Part.{Part}
pub use Rattle.contact.specs.declared.part.Part.TheVariants.{Contact, PhaseEnd, PhaseStart, Unload}
pub use Rattle.contact.specs.Versions.{IsVersion, answers_modify, has_modify, is_tried, version, versions, versions_tried}
pub use Rattle.chan_state.specs.declared.state.State.TheVariants.{Closed, Closing, Modifying, Opened, Released, Rescinded as IsRescinded}
pub use Rattle.chan_state.specs.declared.chan_state.ChanState.{ChanState}
pub use Rattle.gpadl.specs.Assembly.{Assembly, Partial, begun, body_fault, built, fault_of, is_live, with_frames}
pub use Rattle.vmbus_msg.specs.declared.msg.Msg.{Msg}
pub use Rattle.control_model.specs.declared.opening.Opening.{Opening}
pub use Rattle.control_model.specs.declared.channel.Channel.{Channel}
pub use Rattle.control_model.specs.declared.change.Change.TheVariants.{Now, Same}
pub use Rattle.control_model.specs.declared.burst.Burst.TheVariants.{One, Opens, Two}
pub use Rattle.control_model.specs.declared.guest_wait.GuestWait.{GuestWait}
pub use Rattle.control_model.specs.declared.guest_wait.GuestWait.TheVariants.{Created, Listed, Modified, Offers, Opened as AwaitsOpened, Rescinded, Response, ServiceOffer, SubOffer, Torn, Unlisted, Unloaded}
pub use Rattle.control_model.specs.declared.guest_turn.GuestTurn.{GuestTurn}
pub use Rattle.control_model.specs.declared.host_wait.HostWait.{HostWait}
pub use Rattle.control_model.specs.declared.host_wait.HostWait.TheVariants.{Close as AwaitsClose, Connect as AwaitsConnect, Contact as AwaitsContact, Empty as AwaitsEmpty, Fill as AwaitsFill, List as AwaitsList, Modify as AwaitsModify, Nothing as HostNothing, Open as AwaitsOpen, Release as AwaitsRelease, Request, Teardown as AwaitsTeardown, Unload as AwaitsUnload}
pub use Rattle.control_model.specs.declared.host_next.HostNext.{HostNext}
pub use Rattle.contact.specs.Classes.{class_id, offer, offers_from}
pub use Rattle.chan_state.specs.declared.state.State.{State}
pub use Rattle.control_model.specs.declared.buffer.Buffer.{Buffer}
pub use Rattle.control_model.specs.declared.buffer.Buffer.TheVariants.{Receive, Send}
pub use Rattle.contact.specs.declared.kind.Kind.{Kind}
pub use Rattle.contact.specs.declared.kind.Kind.TheVariants.{Disk, Sock}
pub use Rattle.io_edge.specs.declared.side.Side.TheVariants.{Guest as GuestSide, Host as HostSide}
pub use Rattle.chan_state.specs.declared.event.Event.TheVariants.{ModifySeen, OpenSeen, TeardownSeen, WantModify, WantOpen}
pub use Rattle.control_model.specs.declared.change.Change.{Change}
pub use Rattle.chan_state.specs.declared.action.Action.TheVariants.{SendModified, SendResult}
pub use Rattle.gpadl.specs.Whole.{AreTaken, Assemble, after, next, settled, whole, whole_lists}
pub use Rattle.vmbus_msg.specs.declared.msg.Msg.TheVariants.{GpadlBody, GpadlHeader, GpadlTeardown}
pub use Rattle.gpadl.specs.Cut.{AreBodiesOf, AreMessagesOf, bodies}
pub use Rattle.vmbus_msg.specs.declared.gpadl_body.GpadlBody.{GpadlBody as Body}
